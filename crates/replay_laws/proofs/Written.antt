-- The input log that is written for recorded calls has a right size and a sound head, and holds their events. Assumes nothing.
use Prim.Native.Nat.{ℕ, ◌+◌, ◌-◌, ◌*◌, ◌%◌, ◌≤◌, ◌<◌}
use mathlib.Core.Path.{◌≡◌, refl, sym, ap, ◌∙◌}
use mathlib.Core.Bool.{true}
use mathlib.Core.List.{List, [], ◌∷◌, ◌++◌, append_assoc}
use lib.ListN.{length, get_or, length-append}
use lib.Seq.{get_or-append-add}
use native.Mathlib.Nat.{add-zero}
use native.Mathlib.Omega.{arith}
use borrow.Author.Tests.{eq-eqb, le-leb, lt-ltb, le-ltb}
use Rattle.choice.proofs.Picks.{yes, no}
use Rattle.choice.proofs.Tests.{both, join}
use Rattle.log_layout.specs.Log.{count, head_words, most_room, input_width, words_of, room_by, sized_by, input_sized, head_sound, sound_by, input_sound}
use Rattle.calls.specs.Calls.{Call}
use Rattle.input_events.specs.declared.Event.{Event}
use Rattle.input_events.specs.Events.{event_from, event_at}
use Rattle.replay_laws.specs.Recording.{is_recorded, all_recorded, event_of, words_of_event, event_words, input_of, Holds}
use Rattle.replay_laws.specs.Recording.Holds.{none, more}

-- the eight words behind so many others are the event
event_behind : (front behind : List ℕ) (e : Event) → event_from (front ++ (words_of_event e ++ behind)) (length front) ≡ e
event_behind front behind e =
    let ys = words_of_event e ++ behind in
    let first : get_or (front ++ ys) (length front) 0 ≡ e.kind =
    ap (λ (n : ℕ). get_or (front ++ ys) n 0) (sym (add-zero (length front))) ∙ get_or-append-add front ys 0 0 in
    simp (
      first,
      get_or-append-add front ys 1 0,
      get_or-append-add front ys 2 0,
      get_or-append-add front ys 3 0,
      get_or-append-add front ys 4 0,
      get_or-append-add front ys 5 0,
      get_or-append-add front ys 6 0,
      get_or-append-add front ys 7 0,
    ) refl

-- the events of calls take eight words each
words_length : (cs : List Call) → length (event_words cs) ≡ input_width * length cs
unfolding event_words
words_length [] = refl
words_length (c ∷ cs) = let e = words_length cs in omega (arith, e)

-- where the words of so many events are behind the head, the events that come after them are the calls'
events_from : (cs : List Call) (front rest : List ℕ) (l : List ℕ) (at : ℕ) → l ≡ front ++ (event_words cs ++ rest) → length front ≡ words_of input_width at
    → at + length cs ≤ count l → all_recorded cs ≡ true → Holds l at cs
unfolding event_words all_recorded event_at
events_from [] front rest l at e f h r = none
events_from (c ∷ cs) front rest l at e f h r =
    let x = both {a = is_recorded c} {b = all_recorded cs} r in
    let here = words_of_event (event_of c) in
    let behind = event_words cs ++ rest in
    let joins : (here ++ event_words cs) ++ rest ≡ here ++ behind = append_assoc here (event_words cs) rest in
    let is = e ∙ ap (λ (w : List ℕ). front ++ w) joins in
    let long : length l ≡ length front + length (here ++ behind) = ap length is ∙ length-append front (here ++ behind) in
    let there : at < room_by input_width (length l) = omega (arith, long, f) in
    let found : event_at l at ≡ event_of c =
    sym (yes _ (lt-ltb _ _ there) (sym (ap (λ (w : List ℕ). event_from w (words_of input_width at)) is ∙ ap (event_from (front ++ (here ++ behind))) (sym f) ∙ event_behind front behind (event_of c)))) in
    let counted : at < count l = omega (arith, h) in
    let longer : length (front ++ here) ≡ words_of input_width (at + 1) = omega (arith, f, length-append front here) in
    more counted found x.0
    (events_from cs (front ++ here) rest l (at + 1) (is ∙ sym (append_assoc front here behind)) longer (omega (arith, h)) x.1)

module _ (room : ℕ) (cs : List Call) (rest : List ℕ) where
  abbrev l : List ℕ
  l = input_of room cs rest

  pub input_length : length cs ≤ room → length rest ≡ input_width * (room - length cs) → length l ≡ words_of input_width room
  unfolding input_of
  input_length h e = omega (arith, h, e, words_length cs, length-append (event_words cs) rest)

  pub input_sized_lem : 1 ≤ room → room ≤ most_room → length l ≡ words_of input_width room → input_sized (length l) ≡ true
  unfolding input_sized sized_by
  input_sized_lem h k e =
      let n = length l in
      join (join (le-leb (words_of input_width 1) n (omega (arith, h, e))) (le-leb n (words_of input_width most_room) (omega (arith, k, e))))
      (eq-eqb (n % input_width) (head_words % input_width) (omega (arith, e)))

  pub input_sound_lem : 1 ≤ room → length cs ≤ room → length l ≡ words_of input_width room → input_sound l ≡ true
  unfolding input_sound sound_by head_sound input_of
  input_sound_lem h k e =
      sym (no _ (le-ltb (length l) (words_of input_width 1) (omega (arith, h, e)))
      (sym (join (join (join (eq-eqb _ _ e) (le-leb _ _ k)) refl) refl)))

  pub input_holds : all_recorded cs ≡ true → Holds l 0 cs
  unfolding input_of
  input_holds r = events_from cs (length cs ∷ head_words ∷ room ∷ 0 ∷ []) rest l 0 refl refl (omega arith) r
