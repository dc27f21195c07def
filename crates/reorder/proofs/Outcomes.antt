-- What is recorded of a run says which of its events were refused, as `outcomes` of the theorem (crates/acl/specs/Demand3.antt) does: 0 is
-- recorded exactly where an event isn't. Assumes nothing.
use Prim.Native.Nat.{ℕ}
use mathlib.Core.Path.{◌≡◌, refl}
use mathlib.Core.Bool.{Bool, true, false, ◌&&◌, not, cond}
use mathlib.Core.List.{List, [], ◌∷◌, ◌++◌, map}
use Rattle.std.specs.Prelude.{Option, None, Some}
use lib.Dec.{eqb}
use Rattle.text.proofs.Laws.{and_split}
use Rattle.rule.specs.Refusals.{first}
use Rattle.store.specs.Store.{View}
use Rattle.store.specs.View.{view}
use Rattle.events.specs.Event.{Event, connected, disconnected, ended, argument_causes, store_causes, cause, given, after, refused}
use Rattle.acl.specs.Demand3.{Outcome, outcomes}
use Rattle.reorder.specs.Listing.{recorded}
use Rattle.reorder.specs.Running.{records_of}

-- is a refusal recorded?
abbrev told : ℕ → Bool
told n = not (eqb n 0)

-- no cause has the number 0
abbrev numbered : List (Bool × ℕ) → Bool
numbered [] = true
numbered (c ∷ causes) = told c.1 && numbered causes

first-told : (causes : List (Bool × ℕ)) → numbered causes ≡ true → told (recorded (first causes)) ≡ given (first causes)
unfolding recorded first
first-told [] h = refl
first-told (c ∷ causes) h =
    let parts = and_split (told c.1) (numbered causes) h in
    at c.0 parts.0 (first-told causes parts.1)
  where
    at :
        (b : Bool) →
        told c.1 ≡ true →
        told (recorded (first causes)) ≡ given (first causes) →
        told (recorded (cond b (Some c.1) (first causes))) ≡ given (cond b (Some c.1) (first causes))
    at true one rest = one
    at false one rest = rest

cause_told : (e : Event) (o : Option View) → told (recorded (cause e o)) ≡ given (cause e o)
unfolding cause argument_causes store_causes
cause_told (connected n id name) None = first-told (argument_causes (connected n id name) ++ ((true, 3) ∷ [])) refl
cause_told (disconnected n id) None = first-told (argument_causes (disconnected n id) ++ ((true, 3) ∷ [])) refl
cause_told (ended n) None = first-told (argument_causes (ended n) ++ ((true, 3) ∷ [])) refl
cause_told (connected n id name) (Some v) = first-told (argument_causes (connected n id name) ++ store_causes (connected n id name) v) refl
cause_told (disconnected n id) (Some v) = first-told (argument_causes (disconnected n id) ++ store_causes (disconnected n id) v) refl
cause_told (ended n) (Some v) = first-told (argument_causes (ended n) ++ store_causes (ended n) v) refl

pub records_outcomes : (es : List Event) (s : List ℕ) → map (λ n. not (eqb n 0)) (records_of es s) ≡ map (λ (x : Outcome). x.1) (outcomes es s)
unfolding records_of outcomes refused
records_outcomes [] s = refl
records_outcomes (e ∷ es) s = λ i. cause_told e (view s) i ∷ records_outcomes es (after e s) i
