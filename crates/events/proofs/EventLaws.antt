-- What events do to what a view holds: alike views stay alike, and events of which neither touches what is the other's commute. The
-- capacities play no part here: `effect` doesn't look at them. Assumes nothing.
use Prim.Native.Nat.{ℕ}
use mathlib.Core.Path.{◌≡◌, refl, sym, ap, ◌∙◌, fun_ext}
use mathlib.Core.Bool.{Bool, true, false, ◌&&◌, not, true≢false}
use mathlib.Core.List.{List}
use borrow.Author.Tests.{eq-eqb}
use lib.Dec.{eqb}
use Rattle.text.specs.Text.{same}
use Rattle.text.proofs.Laws.{isnt, same_itself}
use Rattle.topic.specs.Topic.{valid_filter, tree_match}
use Rattle.table.specs.Table.{some_row, drops}
use Rattle.table.proofs.TableLaws.{Same, Touches, Spares, new, stays, some_nil, none as none_rows, some_map, touches_spares, adds_spare, untouched, change-same, change_commutes}
use Rattle.store.specs.Store.{FilterRow, NoteRow, View}
use Rattle.store.proofs.LayoutLaws.{filter_rows_lem, eq_rows_lem, note_rows_lem}
use Rattle.events.specs.Event.{Event, connected, disconnected, ended, filter_rows, note_rows, of_session, clears, cleared, filter_change, note_change, effect}

-- the views hold the same rows
pub record Alike (v w : View) : Type 0 where
  pub counts : v.counts ≡ w.counts
  pub text : v.text ≡ w.text
  pub filters : Same v.filters w.filters
  pub eqs : Same v.eqs w.eqs
  pub notes : Same v.notes w.notes

pub alike_refl : (v : View) → Alike v v
alike_refl v = record { counts = refl; text = refl; filters = λ p. refl; eqs = λ p. refl; notes = λ p. refl }

pub alike_trans : {u v w : View} → Alike u v → Alike v w → Alike u w
alike_trans h k =
    record {
      counts = h.counts ∙ k.counts;
      text = h.text ∙ k.text;
      filters = λ p. h.filters p ∙ k.filters p;
      eqs = λ p. h.eqs p ∙ k.eqs p;
      notes = λ p. h.notes p ∙ k.notes p;
    }

-- is the note of the event's session? the filter row of the event's client?
unfoldable pub noted : Event → NoteRow → Bool
noted (connected session id name) n = eqb n.session session
noted (disconnected session id) n = eqb n.session session
noted (ended session) n = eqb n.session session

unfoldable pub owned : Event → FilterRow → Bool
owned (connected session id name) r = same r.owner id
owned (disconnected session id) r = same r.owner id
owned (ended session) r = false

-- no row is both the one's and the other's
pub record Apart (e f : Event) : Type 0 where
  pub notes : (n : NoteRow) → noted f n ≡ true → noted e n ≡ false
  pub filters : (r : FilterRow) → owned f r ≡ true → owned e r ≡ false

pub apart_sym : {e f : Event} → Apart e f → Apart f e
apart_sym a =
    record {
      notes = λ n h. isnt _ (λ k. true≢false (sym h ∙ a.notes n k));
      filters = λ r h. isnt _ (λ k. true≢false (sym h ∙ a.filters r k));
    }

-- an event touches its own client's filter rows and its own session's notes
filters_touched : (e : Event) (text : List ℕ) (notes : List NoteRow) → Touches (owned e) (filter_change e text notes)
unfolding filter_change filter_rows cleared owned new stays
filters_touched (connected n id name) text notes =
    record { added = rw (some_map (λ r. not (owned (connected n id name) r))) (none_rows _ (λ f _. ap not (same_itself id))); taken = λ r h. refl }
filters_touched (disconnected n id) text notes = record { added = some_nil _; taken = λ r h. rw (cleared, h) }
filters_touched (ended n) text notes = record { added = some_nil _; taken = λ r h. refl }

notes_touched : (e : Event) (text : List ℕ) → Touches (noted e) (note_change e text)
unfolding note_change note_rows noted of_session new stays
notes_touched (connected n id name) text =
    record { added = rw (some_map (λ r. not (noted (connected n id name) r))) (none_rows _ (λ f _. ap not (eq-eqb n n refl))); taken = λ r h. refl }
notes_touched (disconnected n id) text = record { added = some_nil _; taken = λ r h. refl }
notes_touched (ended n) text = record { added = some_nil _; taken = λ r h. rw h }

-- an event looks at the notes of its own session alone
SameNotes : Event → List NoteRow → List NoteRow → Type 0
SameNotes e notes notes₁ = (q : NoteRow → Bool) → some_row (λ n. noted e n && q n) notes ≡ some_row (λ n. noted e n && q n) notes₁

filter_change_lem : (e : Event) (text : List ℕ) (notes notes₁ : List NoteRow) → SameNotes e notes notes₁ → filter_change e text notes ≡ filter_change e text notes₁
unfolding filter_change cleared clears of_session noted SameNotes
filter_change_lem (connected n id name) text notes notes₁ h = refl
filter_change_lem (disconnected n id) text notes notes₁ h =
    ap drops (fun_ext (λ r. ap (λ b. same r.owner id && b) (h (λ m. valid_filter m.text && tree_match r.text m.text))))
filter_change_lem (ended n) text notes notes₁ h = refl

-- alike views stay alike
pub effect-alike : (e : Event) {v w : View} → Alike v w → Alike (effect e v) (effect e w)
unfolding effect SameNotes
effect-alike e {v} {w} h =
    record {
      counts = h.counts;
      text = h.text;
      filters = rw (h.text, filter_change_lem e w.text v.notes w.notes (λ q. h.notes (λ n. noted e n && q n))) (change-same filter_rows_lem _ _ _ h.filters);
      eqs = rw h.text (change-same eq_rows_lem _ _ _ h.eqs);
      notes = rw h.text (change-same note_rows_lem _ _ _ h.notes);
    }

-- where two events are apart, neither disturbs what the other looks at or adds
module _ (e f : Event) (apart : Apart e f) (v : View) where
  filter_change_apart : filter_change e v.text (effect f v).notes ≡ filter_change e v.text v.notes
  unfolding effect SameNotes
  filter_change_apart =
      filter_change_lem e v.text _ _ (λ q. untouched note_rows_lem (λ n. noted e n && q n) v.notes (notes_touched f v.text) (λ n h. rw (apart.notes n h)))

  filters_spared : Spares (filter_change e v.text v.notes) (filter_change f v.text v.notes)
  filters_spared = touches_spares (filters_touched e v.text v.notes) (filters_touched f v.text v.notes) apart.filters

  notes_spared : Spares (note_change e v.text) (note_change f v.text)
  notes_spared = touches_spares (notes_touched e v.text) (notes_touched f v.text) apart.notes

-- events apart commute
pub effect_commutes : (e f : Event) (v : View) → Apart e f → Alike (effect e (effect f v)) (effect f (effect e v))
unfolding effect
effect_commutes e f v apart =
    let apart₁ = apart_sym apart in
    record {
      counts = refl;
      text = refl;
      filters = rw (filter_change_apart e f apart v, filter_change_apart f e apart₁ v) (change_commutes filter_rows_lem _ _ _ (filters_spared e f apart v) (filters_spared f e apart₁ v));
      eqs = change_commutes eq_rows_lem _ _ _ (adds_spare _ _) (adds_spare _ _);
      notes = change_commutes note_rows_lem _ _ _ (notes_spared e f apart v) (notes_spared f e apart₁ v);
    }
