-- The call of an event by its kind, for whatever is said of calls: by one kind, of a report and of a begin. Assumes nothing.
use Prim.Native.Nat.{ℕ}
use mathlib.Core.Path.{◌≡◌, sym, ap, ◌∙◌}
use mathlib.Core.Bool.{Bool}
use Rattle.record.specs.declared.Beginning.{Beginning}
use Rattle.record.specs.declared.Reporting.{Reporting}
use Rattle.calls.specs.Calls.{Report, Call}
use Rattle.calls.specs.Calls.Call.{begin, report}
use Rattle.input_events.specs.declared.Event.{Event}
use Rattle.input_events.specs.Meaning.{beginning_of, reporting_of, call_by, meant}

pub by_kind : {A : Type 0} (f : Call → A) (e : Event) (k : ℕ) (c : Call) {x : A} → e.kind ≡ k → c ≡ call_by k e → x ≡ f c → x ≡ f (meant e)
by_kind f e k c h m x = x ∙ ap f (m ∙ ap (λ (n : ℕ). call_by n e) (sym h))

-- the same of a report, with what it is given
pub by_report : {A : Type 0} (f : Call → A) (e : Event) (k : ℕ) (w : Report) {x : A} {given : Reporting} → given ≡ reporting_of e → e.kind ≡ k
    → report w e.ticket (reporting_of e).outcome ≡ call_by k e → x ≡ f (report w given.ticket given.outcome) → x ≡ f (meant e)
by_report f e k w g h m x =
    by_kind f e k (report w e.ticket (reporting_of e).outcome) h m (x ∙ ap (λ (y : Reporting). f (report w y.ticket y.outcome)) g)

-- and of a begin
pub by_begin : {A : Type 0} (f : Call → A) (e : Event) (k : ℕ) (structural : Bool) {x : A} {given : Beginning} → given ≡ beginning_of e → e.kind ≡ k
    → begin structural (beginning_of e) ≡ call_by k e → x ≡ f (begin structural given) → x ≡ f (meant e)
by_begin f e k structural g h m x =
    by_kind f e k (begin structural (beginning_of e)) h m (x ∙ ap (λ (y : Beginning). f (begin structural y)) g)
