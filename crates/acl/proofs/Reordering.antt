-- Demand 3: reordered runs leave the same rows and give the same answers, the plain machine's. Assumes nothing.
use Prim.Native.Nat.{ℕ}
use mathlib.Core.Path.{◌≡◌, refl, sym, ap, ◌∙◌}
use mathlib.Core.Bool.{Bool, true, false, cond}
use mathlib.Core.List.{List, [], ◌∷◌, ◌++◌}
use Rattle.std.specs.Prelude.{Option, None, Some}
use Rattle.text.proofs.Laws.{or_split}
use Rattle.table.specs.Table.{some_row}
use Rattle.table.proofs.TableLaws.{alike_perm, perm-length}
use Rattle.store.specs.Store.{View}
use Rattle.store.specs.Layout.{outside_rows}
use Rattle.store.specs.View.{view}
use Rattle.store.proofs.LayoutLaws.{filter_rows_lem, eq_rows_lem, note_rows_lem, WellFormed, well_formed_parts, well_formed-fits, outside_layout}
use Rattle.store.proofs.ViewLaws.{view-well_formed, view-layout}
use Rattle.questions.specs.Question.{Question, question_cause, Reply, refuses}
use Rattle.questions.specs.Decision.{decide, decided, ask_view, ask}
use Rattle.events.specs.Event.{Event, effect}
use Rattle.events.proofs.EventLaws.{Alike, alike_refl, alike_trans, effect-alike, effect_commutes}
use Rattle.acl.specs.Demand3.{run, Outcome, outcomes, plain_run, shares, Demand3, Permuted, SameRows, malformed, laid_out, Agree}
use Rattle.acl.proofs.SharingLaws.{shares_sym, shares-apart}
use Rattle.acl.proofs.RunLaws.{step, effects, outcomes_plain, view_run, run_malformed, run_effects}
use Rattle.acl.proofs.Positions.{Reordered, done, more, rearranged_reordered}

step-alike : (x : Outcome) {v w : View} → Alike v w → Alike (step x v) (step x w)
unfolding step
step-alike x {v} {w} h = at x.1
  where
    at : (b : Bool) → Alike (cond b v (effect x.0 v)) (cond b w (effect x.0 w))
    at true = h
    at false = effect-alike x.0 h

effects_alike : (xs : List Outcome) {v w : View} → Alike v w → Alike (effects xs v) (effects xs w)
unfolding effects
effects_alike [] h = h
effects_alike (x ∷ xs) h = effects_alike xs (step-alike x h)

step_commutes : (x y : Outcome) (v : View) → shares x.0 y.0 ≡ false → Alike (step x (step y v)) (step y (step x v))
unfolding step
step_commutes x y v apart = at x.1 y.1
  where
    at : (b c : Bool) →
        Alike
        (cond b (cond c v (effect y.0 v)) (effect x.0 (cond c v (effect y.0 v))))
        (cond c (cond b v (effect x.0 v)) (effect y.0 (cond b v (effect x.0 v))))
    at true true = alike_refl _
    at true false = alike_refl _
    at false true = alike_refl _
    at false false = effect_commutes x.0 y.0 v (shares-apart x.0 y.0 apart)

-- an event may be taken before events that share nothing with it
past :
    (x : Outcome) (front back : List Outcome) (v : View) →
    some_row (λ y. shares x.0 y.0) front ≡ false →
    Alike (effects (front ++ back) (step x v)) (effects (front ++ (x ∷ back)) v)
unfolding effects some_row
past x [] back v apart = alike_refl _
past x (y ∷ front) back v apart =
    let s = or_split (shares x.0 y.0) (some_row (λ z. shares x.0 z.0) front) apart in
    alike_trans (effects_alike (front ++ back) (step_commutes y x v (shares_sym y.0 x.0 ∙ s.0))) (past x front back (step y v) s.1)

reordered-alike : {xs ys : List Outcome} (v : View) → Reordered xs ys → Alike (effects xs v) (effects ys v)
unfolding effects
reordered-alike v done = alike_refl v
reordered-alike v (more {x = x} front back apart r) = alike_trans (reordered-alike (step x v) r) (past x front back v apart)

-- views that hold the same rows get the same answers
alike_answers : (q : Question) {v w : View} → Alike v w → ask_view q (Some v) ≡ ask_view q (Some w)
unfolding ask_view decided
alike_answers q h =
    ap
    (λ r. elim (question_cause q) as (λ _. Reply) [ None ↦ r | Some n ↦ refuses n 0 ])
    (λ i. decide q (h.text i) (λ p. h.filters p i) (λ p. h.eqs p i))

-- well-formed views that hold the same rows differ in their sequence alone
alike-permuted : {v w : View} → WellFormed v → WellFormed w → Alike v w → Permuted v w
alike-permuted a b h =
    record {
      counts = h.counts;
      text = h.text;
      filters = alike_perm filter_rows_lem _ _ a.filters.unequal b.filters.unequal h.filters;
      eqs = alike_perm eq_rows_lem _ _ a.eqs.unequal b.eqs.unequal h.eqs;
      notes = alike_perm note_rows_lem _ _ a.notes.unequal b.notes.unequal h.notes;
    }

-- "all other bytes": counts, rule text and how many rows are used decide them
same_outside : (s t : List ℕ) (v w : View) → view s ≡ Some v → view t ≡ Some w → Permuted v w → outside_rows s ≡ outside_rows t
same_outside s t v w left right p =
    let a = outside_layout v (well_formed-fits v (view-well_formed s v left)) in
    let b = outside_layout w (well_formed-fits w (view-well_formed t w right)) in
    let f = perm-length p.filters in
    let e = perm-length p.eqs in
    let n = perm-length p.notes in
    ap outside_rows (sym (view-layout s v left)) ∙ (a ∙ (rw (p.counts, p.text, f, e, n) (sym b ∙ ap outside_rows (view-layout t w right))))

-- stores whose views hold the same rows: the rows are the same, and so is every other byte
same_rows : (s t : List ℕ) (v w : View) → view s ≡ Some v → view t ≡ Some w → Alike v w → SameRows s t
same_rows s t v w left right alike =
    let a = well_formed_parts v (view-well_formed s v left) in
    let b = well_formed_parts w (view-well_formed t w right) in
    let p = alike-permuted a b alike in
    laid_out v w left right p (same_outside s t v w left right p)

-- the theorem, by `Reordered`
pub reordering : (s : List ℕ) (es fs : List Event) → Reordered (outcomes es s) (outcomes fs s) → Agree s es fs
unfolding ask
reordering s es fs r = at (view s) refl
  where
    plain : (q : Question) → ask q (run es s) ≡ ask_view q (plain_run es (view s))
    plain q = ap (ask_view q) (view_run es s)

    at : (o : Option View) → view s ≡ o → Agree s es fs
    at None h =
        let still = run_malformed es s h in
        let same = still ∙ sym (run_malformed fs s h) in
        record {
          rows = malformed (ap view still ∙ h) same;
          alike = λ q. ap (ask q) same;
          refusals = outcomes_plain es s;
          machine = view_run es s;
          plain = plain;
        }
    at (Some v) h =
        let left = run_effects es s v h in
        let right = run_effects fs s v h in
        let held = reordered-alike v r in
        record {
          rows = same_rows _ _ _ _ left right held;
          alike = λ q. ap (ask_view q) left ∙ (alike_answers q held ∙ sym (ap (ask_view q) right));
          refusals = outcomes_plain es s;
          machine = view_run es s;
          plain = plain;
        }

-- demand 3, for every rearrangement by positions
pub demand_3 : Demand3
demand_3 s es fs r = reordering s es fs (rearranged_reordered _ _ r)
