-- Laws of `specs/Event.antt`: an accepted event leaves a well-formed view, so that its layout reads back. Assumes nothing.
use Prim.Native.Nat.{ℕ}
use mathlib.Core.Path.{◌≡◌, refl}
use mathlib.Core.Bool.{Bool, true, false, cond, not-and_self, beq}
use mathlib.Core.List.{List, [], ◌∷◌}
use Rattle.std.specs.Prelude.{Option, None, Some}
use native.Mathlib.Omega.{arith}
use borrow.Author.Tests.{ltb-false, lt-leb}
use lib.Dec.{leb, ltb}
use Rattle.text.proofs.Laws.{or_split}
use Rattle.topic.specs.Topic.{valid_filter}
use Rattle.table.specs.Table.{some_row, add_all, Change, adds, drops, change}
use Rattle.table.proofs.TableLaws.{none as none_rows, none_at, none_of, some_map, some_keep, sound-adds, sound-drops}
use Rattle.rule.specs.Limits.{text_limit, id_limit}
use Rattle.rule.specs.Refusals.{first}
use Rattle.rule.specs.RuleText.{Filled, filled, of_kind}
use Rattle.rule.proofs.TemplateLaws.{Below, filled-below}
use Rattle.store.specs.Store.{session_limit, over, View}
use Rattle.store.specs.View.{rules, bad_eq, bad_filter, bad_note, well_formed}
use Rattle.store.proofs.LayoutLaws.{filter_rows_lem, eq_rows_lem, note_rows_lem, WellFormed, well_formed_parts, well_formed_made}
use Rattle.events.specs.Event.{Event, connected, disconnected, ended, argument_causes, filled_filters, filled_eqs, filter_rows, eq_rows, note_rows, filter_change, new_eqs, note_change, effect, store_causes, cause}

-- where no cause holds, the first doesn't and the others don't
pub no_cause : (c : Bool × ℕ) (causes : List (Bool × ℕ)) → first (c ∷ causes) ≡ None → (c.0 ≡ false) × (first causes ≡ None)
unfolding first
no_cause c causes = at c.0
  where
    at : (b : Bool) → cond b (Some c.1) (first causes) ≡ None → (b ≡ false) × (first causes ≡ None)
    at true e = let z : ◌≡◌ {A = ℕ} 0 1 = cc in absurd (omega arith)
    at false e = (refl, e)

-- ---- new rows are good

-- what no filled template is, none of a kind is
pub none_of_kind : (p : Filled → Bool) (eq : Bool) (fs : List Filled) → some_row p fs ≡ false → some_row p (of_kind eq fs) ≡ false
unfolding some_row of_kind
none_of_kind p eq [] e = refl
none_of_kind p eq (f ∷ fs) e = at (beq f.eq eq) (none_of_kind p eq fs s.1)
  where
    s : (p f ≡ false) × (some_row p fs ≡ false)
    s = or_split (p f) (some_row p fs) e

    at : (b : Bool) → some_row p (of_kind eq fs) ≡ false → some_row p (cond b (f ∷ of_kind eq fs) (of_kind eq fs)) ≡ false
    at true h = rw (s.0, h)
    at false h = h

below_ruled : (m : ℕ) (fs : List Filled) → Below m fs → some_row (λ f. leb m f.rule) fs ≡ false
unfolding some_row
below_ruled m [] h = refl
below_ruled m (f ∷ fs) h = rw (lt-leb m f.rule h.0, below_ruled m fs h.1)

abbrev overlong : Filled → Bool
overlong f = over text_limit f.text

abbrev bad_filled : List ℕ → Filled → Bool
bad_filled text f = bad_eq text (record { rule = f.rule; text = f.text })

-- rows filled for a client whose id is not too long are good, if no text is too long
module _ (text id : List ℕ) (name : Option (List ℕ)) (short : some_row overlong (filled text id name) ≡ false) where
  good_filled : some_row (bad_filled text) (filled text id name) ≡ false
  unfolding bad_eq rules
  good_filled =
      let ruled = below_ruled _ _ (filled-below text id name) in
      none_rows _ (λ f m. rw (none_at (λ (f : Filled). leb (rules text) f.rule) ruled m, none_at overlong short m))

  good_filters : over id_limit id ≡ false → some_row (bad_filter text) (filter_rows text id name) ≡ false
  unfolding bad_filter filter_rows filled_filters
  good_filters e =
      rw (some_map (bad_filter text), some_keep)
      (none_of _ (λ f h. rw (h, e) (not-and_self (valid_filter f.text))) (none_of_kind (bad_filled text) false _ good_filled))

  good_eqs : some_row (bad_eq text) (eq_rows text id name) ≡ false
  unfolding eq_rows filled_eqs
  good_eqs = rw (some_map (bad_eq text)) (none_of_kind (bad_filled text) true _ good_filled)

  good_notes : (session : ℕ) → ltb session_limit session ≡ false → some_row bad_note (note_rows session text id name) ≡ false
  unfolding bad_note note_rows filled_filters
  good_notes session e = rw (some_map bad_note) (none_of _ (λ f h. rw (e, h)) (none_of_kind overlong false _ short))

-- ---- accepted events

-- the test of the rows that a change drops
abbrev dropped : {Row : Type 0} → Change Row → Row → Bool
dropped (adds rows) r = false
dropped (drops test) r = test r

effect_sound : (e : Event) (v : View) → WellFormed v → cause e (Some v) ≡ None → WellFormed (effect e v)
unfolding effect filter_change new_eqs note_change cause argument_causes store_causes change add_all
effect_sound (connected session id name) v wf h =
    let c1 = no_cause _ _ h in
    let c2 = no_cause _ _ c1.1 in
    let c7 = no_cause _ _ c2.1 in
    let c8 = no_cause _ _ c7.1 in
    let c9 = no_cause _ _ c8.1 in
    let c10 = no_cause _ _ c9.1 in
    record {
      head = wf.head;
      filters = sound-adds filter_rows_lem wf.filters _ (ltb-false _ _ c8.0) (good_filters _ _ _ c7.0 (or_split _ _ c1.0).0);
      eqs = sound-adds eq_rows_lem wf.eqs _ (ltb-false _ _ c9.0) (good_eqs _ _ _ c7.0);
      notes = sound-adds note_rows_lem wf.notes _ (ltb-false _ _ c10.0) (good_notes _ _ _ c7.0 session c2.0);
    }
effect_sound (disconnected session id) v wf h =
    record { head = wf.head; filters = sound-drops filter_rows_lem wf.filters (dropped (filter_change (disconnected session id) v.text v.notes)); eqs = wf.eqs; notes = wf.notes }
effect_sound (ended session) v wf h =
    record { head = wf.head; filters = wf.filters; eqs = wf.eqs; notes = sound-drops note_rows_lem wf.notes (dropped (note_change (ended session) v.text)) }

-- an accepted event leaves a view that is as laid out
pub effect-well_formed : (e : Event) (v : View) → well_formed v ≡ true → cause e (Some v) ≡ None → well_formed (effect e v) ≡ true
effect-well_formed e v w h = well_formed_made (effect e v) (effect_sound e v (well_formed_parts v w) h)
