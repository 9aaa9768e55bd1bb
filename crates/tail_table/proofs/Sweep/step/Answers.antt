-- `tail_table::Sweep::step` meets its contract: a return for each case of the definition. Assumes nothing.
use Prim.Native.Nat.{ℕ}
use mathlib.Core.Path.{◌≡◌, sym, ◌∙◌, ap}
use mathlib.Core.Bool.{Bool, true, false, not}
use lib.Dec.{eqb}
use Rattle.choice.specs.Pick.{◌and◌, ◌or◌}
use Rattle.choice.proofs.Picks.{yes, no}
use Rattle.tail_table.specs.Table.{file_of, same, before}
use Rattle.tail_table.specs.Sweeping.{past, stepped}
use Rattle.tail_table.specs.declared.Tail.{Tail}
use Rattle.tail_table.specs.declared.File.{File}
use Rattle.tail_table.specs.declared.Sweep.{Sweep}
use Rattle.tail_table.proofs.Sweep.step.Goals as goal

-- the code's own values: the record's pair u, and whether it comes after the last, b
module _ (s : Sweep) (t : Tail) (number : ℕ) {u : File} {b : Bool} (p : u ≡ file_of t) (q : b ≡ before s.last u) where
  abbrev met-there : File → Sweep
  met-there x = record { file = s.file; count = number; last = x; ordered = s.ordered; met = true; place = s.count; offset = t.offset }

  tested : (v : Bool) → not (eqb s.count 0 or b) ≡ v → not (eqb s.count 0 or before s.last (file_of t)) ≡ v
  tested v h = ap (λ (x : Bool). not (eqb s.count 0 or x)) (sym (q ∙ ap (before s.last) p)) ∙ h

  out_of_order : {z : Sweep} → not (eqb s.count 0 or b) ≡ true → z ≡ past s u number false → z ≡ stepped s t number
  out_of_order h e = yes _ (tested true h) (e ∙ ap (λ (x : File). past s x number false) p)

  module _ {m : Bool} (r : m ≡ same u s.file) (h : not (eqb s.count 0 or b) ≡ false) where
    met-too : (v : Bool) → m and not s.met ≡ v → same (file_of t) s.file and not s.met ≡ v
    met-too v e = ap (λ (x : Bool). x and not s.met) (sym (r ∙ ap (λ (x : File). same x s.file) p)) ∙ e

    first-met : m and not s.met ≡ true → met-there u ≡ stepped s t number
    first-met e = no _ (tested false h) (yes _ (met-too true e) (ap met-there p))

    no_more : {z : Sweep} → m and not s.met ≡ false → z ≡ past s u number s.ordered → z ≡ stepped s t number
    no_more e q = no _ (tested false h) (no _ (met-too false e) (q ∙ ap (λ (x : File). past s x number s.ordered) p))

pub returns-then-not-self-before : goal.returns-then-not-self-before
unfolding ◌or◌
returns-then-not-self-before c =
    let d = c in
    let u = d in
    let a = u.args in
    out_of_order a.self a.t a.number u.file-this.ensures d.before-2.ensures (ap not d.if-not-self-before.true) c.past.ensures

pub returns-then-is-self : goal.returns-then-is-self
unfolding ◌or◌ ◌and◌
returns-then-is-self c =
    let u = c in
    let a = u.args in
    first-met a.self a.t a.number u.file-this.ensures c.before-2.ensures c.is.ensures (ap not c.if-not-self-before.false) c.if-is-self.true

pub returns : goal.returns
unfolding ◌or◌ ◌and◌
returns c =
    let d = c in
    let u = d in
    let a = u.args in
    no_more a.self a.t a.number u.file-this.ensures d.before-2.ensures d.is.ensures (ap not d.if-not-self-before.false) d.if-is-self.false c.past-2.ensures
