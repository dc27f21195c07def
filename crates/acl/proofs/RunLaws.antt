-- Runs on stores are runs of the plain machine on views, and come to the effects of the accepted events alone. Assumes nothing.
use Prim.Native.Nat.{ℕ}
use mathlib.Core.Path.{◌≡◌, refl, ap, ◌∙◌}
use mathlib.Core.Bool.{Bool, true, false, cond, true≢false}
use mathlib.Core.List.{List, [], ◌∷◌, map}
use Rattle.std.specs.Prelude.{Option, None, Some}
use Rattle.store.specs.Store.{View}
use Rattle.store.specs.Layout.{layout}
use Rattle.store.specs.View.{view}
use Rattle.store.proofs.ViewLaws.{view-well_formed, view_of_layout}
use Rattle.events.specs.Event.{Event, effect, cause, given, stored, after, refused}
use Rattle.events.proofs.AcceptedLaws.{effect-well_formed}
use Rattle.acl.specs.Demand3.{run, Outcome, outcomes, plain_step, plain_run, plain_outcomes}

-- the effect of an event of a run, if it was accepted
unfoldable pub step : Outcome → View → View
step x v = cond x.1 v (effect x.0 v)

unfoldable pub effects : List Outcome → View → View
effects [] v = v
effects (x ∷ xs) v = effects xs (step x v)

-- on a store not as laid out nothing happens
pub run_malformed : (es : List Event) (s : List ℕ) → view s ≡ None → run es s ≡ s
unfolding run after stored
run_malformed [] s h = refl
run_malformed (e ∷ es) s h = rw h (run_malformed es s h)

-- the outcomes of a run are those of its events, one for each
pub outcomes_events : (es : List Event) (s : List ℕ) → map (λ x. x.0) (outcomes es s) ≡ es
unfolding outcomes
outcomes_events [] s = refl
outcomes_events (e ∷ es) s = ap (λ l. e ∷ l) (outcomes_events es (after e s))

not_given : (o : Option ℕ) → given o ≡ false → o ≡ None
not_given None e = refl
not_given (Some n) e = absurd (true≢false e)

-- the code's store reads as the plain machine's view
pub view-after : (e : Event) (s : List ℕ) → view (after e s) ≡ plain_step e (view s)
unfolding after stored plain_step
view-after e s = at (view s) refl
  where
    accepted : (v : View) → view s ≡ Some v → (b : Bool) → given (cause e (Some v)) ≡ b → view (cond b s (layout (effect e v))) ≡ cond b (Some v) (Some (effect e v))
    accepted v h true c = h
    accepted v h false c = view_of_layout (effect e v) (effect-well_formed e v (view-well_formed s v h) (not_given _ c))

    at : (o : Option View) → view s ≡ o → view (stored e s o) ≡ plain_step e o
    at None h = h
    at (Some v) h = accepted v h (given (cause e (Some v))) refl

pub view_run : (es : List Event) (s : List ℕ) → view (run es s) ≡ plain_run es (view s)
unfolding run plain_run
view_run [] s = refl
view_run (e ∷ es) s = view_run es (after e s) ∙ ap (plain_run es) (view-after e s)

-- an event of a run is refused exactly if the plain machine's has a cause
pub outcomes_plain : (es : List Event) (s : List ℕ) → outcomes es s ≡ plain_outcomes es (view s)
unfolding outcomes refused plain_outcomes
outcomes_plain [] s = refl
outcomes_plain (e ∷ es) s =
    ap (λ l. (e, given (cause e (view s))) ∷ l) (outcomes_plain es (after e s) ∙ ap (plain_outcomes es) (view-after e s))

-- what a run comes to: the effects of its accepted events
pub run_effects : (es : List Event) (s : List ℕ) (v : View) → view s ≡ Some v → view (run es s) ≡ Some (effects (outcomes es s) v)
unfolding run outcomes refused effects step plain_step
run_effects [] s v h = h
run_effects (e ∷ es) s v h = run_effects es (after e s) (step (e, refused e s) v) (view-after e s ∙ (rw h (either (given (cause e (Some v))))))
  where
    either : (b : Bool) → cond b (Some v) (Some (effect e v)) ≡ Some (cond b v (effect e v))
    either true = refl
    either false = refl
