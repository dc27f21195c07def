-- What two runs of the events have in common, and which orders demand 3 means.
use Rattle.std.specs.Prelude.{ℕ, ◌+◌, Bool, ◌&&◌, ◌||◌, not, List, [], ◌∷◌, map, find, drop, eqb, leb, ltb, is_ok, is_err, Option, Result, Ok}
use Rattle.std.specs.Option.{option_map_or}
use Rattle.std.specs.Bool.{beq}
use Rattle.std.specs.List.{list_all, enumerate_from}
use Rattle.rule.specs.declared.Refusal.{Refusal}
use Rattle.store.specs.View.{view}
use Rattle.events.specs.Event as happens
use Rattle.acl.specs.Demand3.{same_client, shares, Outcome}
use Rattle.reorder.specs.Listing.{session, client, listed, recorded}
use Rattle.reorder.specs.declared.listing.Event.{Event}
use Rattle.reorder.specs.declared.running.Answered.{Answered}

-- the events of an order of numbers
abbrev pub events_of : List ℕ → List happens.Event
events_of order = map listed order

-- the cause of each event of a run, none where it is done
unfoldable pub causes : List happens.Event → List ℕ → List (Option ℕ)
causes [] s = []
causes (e ∷ es) s = happens.cause e (view s) ∷ causes es (happens.after e s)

-- what is recorded of a run
unfoldable pub records_of : List happens.Event → List ℕ → List ℕ
records_of [] s = []
records_of (e ∷ es) s = recorded (happens.cause e (view s)) ∷ records_of es (happens.after e s)

-- the numbers of the events of a run
abbrev pub numbers : List Answered → List ℕ
numbers = map (λ (a : Answered). a.number)

-- the number that each answer of a run says, none where the event is done
abbrev pub told : List Answered → List (Option ℕ)
told = map (λ (a : Answered). happens.says a.answer)

-- what is recorded of each answer of a run
abbrev pub records : List Answered → List ℕ
records = map (λ (a : Answered). recorded (happens.says a.answer))

-- the events of a run, and whether each was refused
abbrev pub outcomes_of : List Answered → List Outcome
outcomes_of = map (λ (a : Answered). (listed a.number, is_err a.answer))

-- what is answered, in a run, to the event of a number; done where there is none
abbrev pub answer_to : ℕ → List Answered → Result (Unit {0}) Refusal
answer_to n run = option_map_or (λ (a : Answered). a.answer) (find (λ (a : Answered). eqb a.number n) run) (Ok tt)

-- of two runs of the same events: is each event done in the one exactly if it is in the other?
abbrev pub same_refused : List Answered → List Answered → Bool
same_refused run other = list_all (λ (a : Answered). beq (is_ok a.answer) (is_ok (answer_to a.number other))) run

-- do two events share a client id or a session number?
unfoldable pub share : Event → Event → Bool
share d e = eqb (session d) (session e) || same_client (client d) (client e)

-- may the event `later` come behind `n`? Not `n` again, and none that is listed before it and shares a client id or a session number with it
unfoldable pub may_follow : ℕ → ℕ → Bool
may_follow n later = not (eqb later n) && not (ltb later n && shares (listed n) (listed later))

-- is `n` the number of an event, and may all that are behind it come there?
abbrev pub fits : ℕ → List ℕ → Bool
fits n behind = not (eqb n 0) && (leb n 15 && list_all (may_follow n) behind)

-- is it an order of events, none twice, in which those that share a client id or a session number keep their order?
abbrev pub keeps : List ℕ → Bool
keeps order = list_all (λ (x : ℕ × ℕ). fits x.1 (drop (x.0 + 1) order)) (enumerate_from 0 order)
