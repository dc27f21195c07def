-- A run, an event at a time. Assumes nothing.
use Rattle.std.proofs.Common.{ℕ, ◌+◌, ◌<◌, ◌≤◌, ◌≡◌, List, [], ◌∷◌, ◌++◌, length, get_or, take, drop, set, refl, sym, ap, ◌∙◌, arith, add-one, append_assoc, Option, Result, Ok, Err, is_err}
use mathlib.Core.List.{map, append-nil}
use Rattle.std.proofs.Math.ListN.{get_or-map}
use Rattle.std.proofs.Math.Seq.{drop-cons, map-set_same, take_all}
use lib.ListN.{drop_of_length-le}
use Rattle.std.proofs.lemmas.List.{take_more_set, map-append, length-map}
use Rattle.rule.specs.declared.Refusal.{Refusal}
use Rattle.store.specs.View.{view}
use Rattle.events.specs.Event as happens
use Rattle.acl.specs.Demand3.{run, outcomes}
use Rattle.reorder.specs.declared.running.Answered.{Answered}
use Rattle.reorder.specs.Listing.{listed, recorded}
use Rattle.reorder.specs.Running.{events_of, causes, records_of, numbers, told, records, outcomes_of}

-- an event before it is handed to the store: what a place of a list is where the list has none
abbrev pub unanswered : Answered
unanswered = record { number = 0; answer = Ok (tt {0}) }

-- the state of a loop over a run: `i` events are passed, and answered
pub record Running (order before store : List ℕ) (answered : List Answered) (i : ℕ) : Type 0 where
  pub numbered : numbers answered ≡ order
  pub stores : run (events_of (drop i order)) store ≡ run (events_of order) before
  pub answers : (told (take i answered) ++ causes (events_of (drop i order)) store) ≡ causes (events_of order) before

pub running_none : (order before : List ℕ) (answered : List Answered) → numbers answered ≡ order → Running order before before answered 0
running_none order before answered h = record { numbered = h; stores = refl; answers = refl }

run_one : (e : happens.Event) (es : List happens.Event) (s : List ℕ) → run (e ∷ es) s ≡ run es (happens.after e s)
unfolding run
run_one e es s = refl

causes_one : (e : happens.Event) (es : List happens.Event) (s : List ℕ) → causes (e ∷ es) s ≡ happens.cause e (view s) ∷ causes es (happens.after e s)
unfolding causes
causes_one e es s = refl

run_none : (s : List ℕ) → run [] s ≡ s
unfolding run
run_none s = refl

causes_none : (s : List ℕ) → causes [] s ≡ []
unfolding causes
causes_none s = refl

module _ {order before store : List ℕ} {answered : List Answered} {i : ℕ} (w : Running order before store answered i) where
  events_at : i < length order → events_of (drop i order) ≡ listed (get_or answered i unanswered).number ∷ events_of (drop (i + 1) order)
  events_at h =
      let n : get_or order i 0 ≡ (get_or answered i unanswered).number =
      sym (ap (λ (l : List ℕ). get_or l i 0) w.numbered) ∙ get_or-map (λ (a : Answered). a.number) answered i unanswered in
      rw (add-one, drop-cons order i 0 h, n) refl

  pub running_more :
      {store₁ : List ℕ} {e : happens.Event} (a : Answered) →
      i < length order →
      a.number ≡ (get_or answered i unanswered).number →
      e ≡ listed (get_or answered i unanswered).number →
      store₁ ≡ happens.after e store →
      happens.says a.answer ≡ happens.cause e (view store) →
      Running order before store₁ (set answered i a) (i + 1)
  running_more {store₁} {e} a h n p q r =
      let rest : List happens.Event = events_of (drop (i + 1) order) in
      let here : events_of (drop i order) ≡ e ∷ rest = events_at h ∙ ap (λ (x : happens.Event). x ∷ rest) (sym p) in
      let fits : i < length answered = omega (arith, simp length-map at (ap length w.numbered)) in
      let one : (told (take (i + 1) (set answered i a)) ++ causes rest store₁) ≡ told (take i answered) ++ (happens.says a.answer ∷ causes rest store₁) =
      rw (take_more_set answered i a fits, map-append, append_assoc) refl in
      let next : causes (events_of (drop i order)) store ≡ happens.says a.answer ∷ causes rest store₁ =
      ap (λ (es : List happens.Event). causes es store) here ∙ (causes_one e rest store ∙ rw (q, r) refl) in
      record {
        numbered = map-set_same (λ (a : Answered). a.number) answered i a unanswered n ∙ w.numbered;
        stores = ap (run rest) q ∙ (sym (run_one e rest store) ∙ (sym (ap (λ (es : List happens.Event). run es store) here) ∙ w.stores));
        answers = one ∙ (sym (ap (λ (l : List (Option ℕ)). told (take i answered) ++ l) next) ∙ w.answers);
      }

  pub running_end : length order ≤ i → (store ≡ run (events_of order) before) × (told answered ≡ causes (events_of order) before)
  running_end h =
      let none_left : drop i order ≡ [] = drop_of_length-le order {i = i} h in
      let all : take i answered ≡ answered = take_all i answered (omega (arith, simp length-map at (ap length w.numbered))) in (
        sym (run_none store) ∙ (sym (ap (λ (l : List ℕ). run (events_of l) store) none_left) ∙ w.stores),
        sym (append-nil (told answered))
            ∙ (ap (λ (l : List (Option ℕ)). told answered ++ l) (sym (causes_none store))
            ∙ (sym (ap (λ (l : List ℕ). told answered ++ causes (events_of l) store) none_left)
            ∙ (ap (λ (l : List Answered). told l ++ causes (events_of (drop i order)) store) (sym all) ∙ w.answers))),
      )

-- an answer is an error just where it says a cause
is_refused : (r : Result (Unit {0}) Refusal) → is_err r ≡ happens.given (happens.says r)
unfolding happens.says
is_refused (Ok tt) = refl
is_refused (Err cause) = refl

-- the same as `outcomes_run` below, of the run's own numbers
outcomes_told :
    (answered : List Answered) (s : List ℕ) →
    told answered ≡ causes (events_of (numbers answered)) s →
    outcomes_of answered ≡ outcomes (events_of (numbers answered)) s
unfolding causes outcomes happens.refused
outcomes_told [] s h = refl
outcomes_told (a ∷ answered) s h =
    let e : happens.Event = listed a.number in
    let here : happens.says a.answer ≡ happens.cause e (view s) = cc in
    let behind : told answered ≡ causes (events_of (numbers answered)) (happens.after e s) = cc in
    λ i. (e, (is_refused a.answer ∙ ap happens.given here) i) ∷ outcomes_told answered (happens.after e s) behind i

-- a run with its answers is `outcomes` of the theorem
pub outcomes_run :
    {order : List ℕ} (answered : List Answered) (s : List ℕ) →
    numbers answered ≡ order →
    told answered ≡ causes (events_of order) s →
    outcomes_of answered ≡ outcomes (events_of order) s
outcomes_run answered s n h =
    outcomes_told answered s (h ∙ ap (λ (l : List ℕ). causes (events_of l) s) (sym n))
    ∙ ap (λ (l : List ℕ). outcomes (events_of l) s) n

-- what is recorded of a cause is what `records_of` has
recorded_causes : (es : List happens.Event) (s : List ℕ) → map recorded (causes es s) ≡ records_of es s
unfolding causes records_of
recorded_causes [] s = refl
recorded_causes (e ∷ es) s = ap (λ (ns : List ℕ). recorded (happens.cause e (view s)) ∷ ns) (recorded_causes es (happens.after e s))

recorded_told : (answered : List Answered) → records answered ≡ map recorded (told answered)
recorded_told [] = refl
recorded_told (a ∷ answered) = ap (λ (ns : List ℕ). recorded (happens.says a.answer) ∷ ns) (recorded_told answered)

-- what is recorded of a run is `records_of` its events
pub records_run : (es : List happens.Event) (answered : List Answered) (s : List ℕ) → told answered ≡ causes es s → records answered ≡ records_of es s
records_run es answered s h = recorded_told answered ∙ (ap (map recorded) h ∙ recorded_causes es s)
