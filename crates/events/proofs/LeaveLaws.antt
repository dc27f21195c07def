-- Laws of the rows that leave: the steps of the loops of leaving.rt, and what its events do to a store as laid out. Assumes nothing.
use Prim.Native.Nat.{ℕ, zero, suc, ◌+◌, ◌-◌, ◌*◌, ◌≤◌, ◌<◌}
use mathlib.Core.Path.{◌≡◌, refl, sym, ap, ◌∙◌}
use mathlib.Core.Bool.{Bool, true, false, ◌&&◌, not, cond, and-false}
use mathlib.Core.List.{List, [], ◌∷◌, ◌++◌, map, append_assoc, append-nil}
use Rattle.std.specs.Prelude.{None, Some, Option, Result, Ok, Err}
use native.Mathlib.Nat.{mul-le-mul_right, mul_comm, mul-sub}
use native.Mathlib.Omega.{arith}
use borrow.Author.Tests.{eq-eqb, ne_eqb, lt-ltb, le-ltb}
use lib.Dec.{leb}
use lib.ListN.{length, take, drop, replicate, length-drop, length-map, take-append-drop, drop_of_length-le, replicate-append-replicate}
use lib.Seq.{drop-drop, drop-append-le, length-take-le}
use Rattle.std.proofs.lemmas.List.{drop-take, take-take}
use Rattle.text.specs.Text.{same, pasted}
use Rattle.text.proofs.Laws.{or_split}
use Rattle.topic.specs.Topic.{levels, levels_if, checked_levels, levels_match, valid_filter, tree_match}
use Rattle.topic.specs.Walk.{begins_apart}
use Rattle.topic.proofs.Apart.{apart_no_match}
use Rattle.table.specs.Table.{some_row, keep, add_all, change}
use Rattle.table.specs.Bytes.{u16, number, rows, join, left, closed_up}
use Rattle.rule.specs.Refusals.{number as refusal, first}
use Rattle.rule.specs.declared.Refusal.{Refusal}
use Rattle.rule.specs.declared.Refusal.TheVariants.{TooLong, OutOfRange, Malformed as Unread}
use Rattle.store.specs.declared.Shape.{Shape}
use Rattle.store.specs.Store.{store_length, NoteRow, View}
use Rattle.store.specs.Layout.{pad, put_all, Codec, filter_text, filter_owner, filter_codec, numbered_text, numbered_codec, note_codec, area, layout, filters_at, eqs_at, notes_at}
use Rattle.store.specs.View.{well_formed, view}
use Rattle.store.specs.Check.{shape_of}
use Rattle.table.proofs.TableLaws.{length-keep}
use Rattle.store.proofs.LayoutLaws.{Reads, note_reads, filter_reads, filter_area, note_area, layout-length, well_formed-fits, put_all-length, area-rows, area_unused}
use Rattle.store.proofs.ViewLaws.{view_of_layout}
use Rattle.store.proofs.AreaLaws.{kept_good, with_filters, with_notes}
use Rattle.store.proofs.PartLaws.{filter_stretch, note_stretch, notes_read, Shaped, shaped}
use Rattle.events.specs.Event.{Event, disconnected, ended, argument_causes, of_session, clears, cleared, filter_change, new_eqs, note_change, effect, store_causes, cause, stored, after, says}
use Rattle.events.specs.Leaving.{filter_row, note_row, note_rows_in}
use Rattle.events.proofs.StoreLaws.{argument_caused, malformed_caused}

-- ---- a note by its number and its text

pub text_apart : (filter note : List ℕ) → begins_apart filter note ≡ true → (valid_filter note && tree_match filter note) ≡ false
text_apart filter note e = ap (λ (b : Bool). valid_filter note && b) (apart_no_match filter note e) ∙ and-false (valid_filter note)

-- T of a note that is taken for valid
pub text_known : (filter note : List ℕ) {told : Bool} → levels_match (levels filter) (levels_if true note) ≡ told
    → (valid_filter note && tree_match filter note) ≡ (valid_filter note && told)
unfolding tree_match checked_levels
text_known filter note {told} e = by (valid_filter note)
  where
    by : (valid : Bool) → (valid && levels_match (levels filter) (levels_if valid note)) ≡ (valid && told)
    by true = e
    by false = refl

module _ (session : ℕ) (filter row : List ℕ) {n : ℕ} (e : n ≡ number row) where
  pub note_other : (n ≡ session → ⊥) → clears session filter (note_codec.get row) ≡ false
  unfolding clears of_session numbered_codec
  note_other k = rw (ne_eqb (number row) session (λ q. k (e ∙ q)))

  pub note_own : {text : List ℕ} {told b : Bool} → n ≡ session → text ≡ numbered_text row → told ≡ (valid_filter text && tree_match filter text) → told ≡ b
      → clears session filter (note_codec.get row) ≡ b
  unfolding clears of_session numbered_codec
  note_own k t m r = rw (eq-eqb (number row) session (sym e ∙ k), ← t, ← m, r)

-- ---- a filter row by its owner and its text

module _ (session : ℕ) (id row : List ℕ) (notes : List NoteRow) {owner : List ℕ} {owned : Bool} (o : owner ≡ filter_owner row) (s : owned ≡ same owner id) where
  pub row-owned : {text : List ℕ} {told : Bool} → owned ≡ true → text ≡ filter_text row → told ≡ some_row (clears session text) notes
      → told ≡ cleared session id notes (filter_row row)
  unfolding cleared filter_row filter_codec
  row-owned q t m = m ∙ rw (← o, ← s, q, ← t)

  pub row_other : owned ≡ false → false ≡ cleared session id notes (filter_row row)
  unfolding cleared filter_row filter_codec
  row_other q = rw (← o, ← s, q)

-- ---- the rows that stay

rows_few : (size n : ℕ) (s : List ℕ) → length (rows size n s) ≤ n
unfolding rows
rows_few size zero s = omega arith
rows_few size (suc n) s = at (leb size (length s)) (rows_few size n (drop size s))
  where
    at : (b : Bool) → length (rows size n (drop size s)) ≤ n → length (cond b (take size s ∷ rows size n (drop size s)) []) ≤ suc n
    at true h = omega arith
    at false h = omega arith

pub stay_few : {stay : ℕ} (goes : List ℕ → Bool) (size used : ℕ) (s : List ℕ) → stay ≡ length (left goes size used s) → stay ≤ used
unfolding left
stay_few goes size used s e = omega (arith, length-keep (λ r. not (goes r)) (rows size used s), rows_few size used s)

-- rows that are written so that they can be read back stay as written if and only if they stay
keep_put : {Row : Type 0} {c : Codec Row} {bad : Row → Bool} → Reads c bad → (test : Row → Bool) (rs : List Row) → some_row bad rs ≡ false
    → keep (λ b. not (test (c.get b))) (map c.put rs) ≡ map c.put (keep (λ r. not (test r)) rs)
unfolding keep some_row
keep_put R test [] good = refl
keep_put {c = c} {bad = bad} R test (r ∷ rs) good =
    let g = or_split (bad r) (some_row bad rs) good in
    rw (R.back r g.0) (at (test r) (keep_put R test rs g.1))
  where
    at : (b : Bool) → keep (λ b. not (test (c.get b))) (map c.put rs) ≡ map c.put (keep (λ r. not (test r)) rs)
        → cond (not b) (c.put r ∷ keep (λ b. not (test (c.get b))) (map c.put rs)) (keep (λ b. not (test (c.get b))) (map c.put rs))
        ≡ map c.put (cond (not b) (r ∷ keep (λ r. not (test r)) rs) (keep (λ r. not (test r)) rs))
    at true e = e
    at false e = ap (λ (l : List (List ℕ)). c.put r ∷ l) e

-- a table as laid out, of which the rows that pass a test go
module _ {Row : Type 0} {c : Codec Row} {bad : Row → Bool} (R : Reads c bad) (room : ℕ) (rs : List Row)
    (good : some_row bad rs ≡ false) (fits : length rs ≤ room) (test : Row → Bool) where
  left_rows : left (λ b. test (c.get b)) c.size (length rs) (area c room rs) ≡ map c.put (keep (λ r. not (test r)) rs)
  unfolding left
  left_rows = rw (area-rows R room rs good) (keep_put R test rs good)

  pub remove_count : length (left (λ b. test (c.get b)) c.size (length rs) (area c room rs)) ≡ length (keep (λ r. not (test r)) rs)
  remove_count = rw left_rows (length-map (keep (λ r. not (test r)) rs) c.put)

  pub remove_area : closed_up (λ b. test (c.get b)) c.size (length rs) (area c room rs) ≡ area c room (keep (λ r. not (test r)) rs)
  unfolding closed_up put_all area pad
  remove_area =
      let stay = keep (λ r. not (test r)) rs in
      let fewer = mul-le-mul_right c.size (length-keep (λ r. not (test r)) rs) in
      let full = mul-le-mul_right c.size fits in
      let gone : (length rs - length stay) * c.size ≡ length rs * c.size - length stay * c.size =
      mul_comm _ c.size ∙ (mul-sub c.size (length rs) (length stay) ∙ simp mul_comm) in
      let gap : (length rs - length stay) * c.size + (room * c.size - length rs * c.size) ≡ room * c.size - length stay * c.size = omega arith in
      rw (
        remove_count,
        left_rows,
        area-rows R room rs good,
        length-map rs c.put,
        area_unused R room rs good,
        replicate-append-replicate {A = ℕ} ((length rs - length stay) * c.size) (room * c.size - length rs * c.size) 0,
        gap,
      )
      (ap (λ n. join (map c.put stay) ++ replicate (room * c.size - n) 0) (sym (put_all-length R stay (kept_good bad test rs good))))

  -- at a place of a store
  left_told : {part : List ℕ} {stay gap : ℕ} (s : List ℕ) (at : ℕ) → take (room * c.size) (drop at s) ≡ area c room rs → gap ≡ room * c.size
      → (stay ≡ length (left (λ b. test (c.get b)) c.size (length rs) (take gap (drop at s)))) × (part ≡ closed_up (λ b. test (c.get b)) c.size (length rs) (take gap (drop at s)))
      → (stay ≡ length (keep (λ r. not (test r)) rs)) × (part ≡ area c room (keep (λ r. not (test r)) rs))
  left_told s at p e r =
      let t = rw (e, p) at r in
      (t.0 ∙ remove_count, t.1 ∙ remove_area)

-- ---- what an event answers and does

abbrev pub Answers : Result (Unit {0}) Refusal → Event → List ℕ → List ℕ → Type 0
Answers answer e s store = (says answer ≡ cause e (view s)) × (store ≡ after e s)

pub argument_refused : (reason : Refusal) (e : Event) (s : List ℕ) → first (argument_causes e) ≡ Some (refusal reason) → Answers (Err reason) e s s
unfolding says
argument_refused reason e s h = argument_caused e s h

pub unread_refused : {read : Option Shape} (e : Event) (s : List ℕ) → first (argument_causes e) ≡ None → read ≡ shape_of (view s) → read ≡ None → Answers (Err Unread) e s s
unfolding says refusal
unread_refused e s h p q = malformed_caused e s h (sym p ∙ q)

pub done_by : {store : List ℕ} (e : Event) (v : View) → well_formed v ≡ true → cause e (Some v) ≡ None → store ≡ layout (effect e v) → Answers (Ok tt) e (layout v) store
unfolding says after stored
done_by e v w q r = let views = view_of_layout v w in (rw views (sym q), r ∙ rw (views, q))

-- ---- session end

module _ (session : ℕ) (s : List ℕ) where
  pub ended_out : 256 ≤ session → Answers (Err OutOfRange) (ended session) s s
  unfolding argument_causes first refusal
  ended_out h = argument_refused OutOfRange (ended session) s (rw (lt-ltb 255 session h))

  pub ended_unread : {read : Option Shape} → session < 256 → read ≡ shape_of (view s) → read ≡ None → Answers (Err Unread) (ended session) s s
  unfolding argument_causes first
  ended_unread h = unread_refused (ended session) s (rw (le-ltb 255 session (omega arith)))

pub ended_done : {s store part : List ℕ} {shape : Shape} {from end stay : ℕ} (session : ℕ) → Shaped s shape → session < 256
    → from ≡ notes_at shape.counts → end ≡ store_length shape.counts
    → (stay ≡ length (left (λ b. of_session session (note_row b)) 260 shape.notes (take (end - from) (drop from s)))) × (part ≡ closed_up (λ b. of_session session (note_row b)) 260 shape.notes (take (end - from) (drop from s)))
    → store ≡ pasted 14 (u16 stay) (take from s ++ (part ++ drop (end - from) (drop from s)))
    → Answers (Ok tt) (ended session) s store
unfolding store_length notes_at eqs_at filters_at cause argument_causes store_causes first effect filter_change new_eqs note_change change add_all numbered_codec note_row
ended_done {from = from} {end = end} session (shaped v e) h p q r t =
    let f = well_formed-fits v e in
    let span : end - from ≡ v.counts.notes * 260 = omega arith in
    let cut : take (v.counts.notes * 260) (drop from (layout v)) ≡ note_area v = rw p (note_stretch v f) in
    let left = left_told note_reads _ _ f.note_texts f.notes (of_session session) (layout v) from cut span r in
    let short : length (drop from (layout v)) ≤ end - from = omega (arith, length-drop from (layout v), layout-length v f) in
    let rest : drop (end - from) (drop from (layout v)) ≡ [] = drop_of_length-le _ short in
    done_by (ended session) v e (rw (le-ltb 255 session (omega arith)))
    (t ∙ rw (rest, append-nil, left.1, left.0, p) (with_notes v f (keep (λ n. not (of_session session n)) v.notes)))

-- ---- disconnect

module _ (session : ℕ) (id s : List ℕ) where
  pub disconnected_long : 64 < length id → Answers (Err TooLong) (disconnected session id) s s
  unfolding argument_causes first refusal
  disconnected_long h = argument_refused TooLong (disconnected session id) s (rw (lt-ltb 64 (length id) h))

  module _ (k : length id ≤ 64) where
    pub disconnected_out : 256 ≤ session → Answers (Err OutOfRange) (disconnected session id) s s
    unfolding argument_causes first refusal
    disconnected_out h = argument_refused OutOfRange (disconnected session id) s (rw (le-ltb 64 (length id) k, lt-ltb 255 session h))

    pub disconnected_unread : {read : Option Shape} → session < 256 → read ≡ shape_of (view s) → read ≡ None
        → Answers (Err Unread) (disconnected session id) s s
    unfolding argument_causes first
    disconnected_unread h = unread_refused (disconnected session id) s (rw (le-ltb 64 (length id) k, le-ltb 255 session (omega arith)))

-- the parts of a list that was cut at `end`, of whose front a part was written
part_before : (s : List ℕ) (from gap end : ℕ) → from + gap ≤ end → take gap (drop from (take end s)) ≡ take gap (drop from s)
part_before s from gap end h =
    let place : from + (end - from) ≡ end = omega arith in
    rw place at (ap (take gap) (drop-take from (end - from) s)) ∙ take-take gap (end - from) (drop from s) (omega arith)

part_written : (s part : List ℕ) (from to end : ℕ) → from ≤ to → to ≤ end → end ≤ length s
    → (take from (take end s) ++ (part ++ drop (to - from) (drop from (take end s)))) ++ drop end s ≡ take from s ++ (part ++ drop to s)
part_written s part from to end h k l =
    let place : from + (to - from) ≡ to = omega arith in
    let cut : length (take end s) ≡ end = length-take-le end s l in
    let behind : drop to (take end s) ++ drop end s ≡ drop to s =
    sym (drop-append-le to (take end s) (drop end s) (omega (arith, cut))) ∙ ap (drop to) (take-append-drop end s) in
    let front : take from (take end s) ≡ take from s = take-take from end s (omega arith) in
    rw (front, drop-drop (to - from) from (take end s), place, append_assoc, append_assoc, behind) refl

pub disconnected_done : {s store part : List ℕ} {shape : Shape} {from to notes stay : ℕ} (session : ℕ) (id : List ℕ) → Shaped s shape
    → length id ≤ 64 → session < 256 → from ≡ filters_at shape.counts → to ≡ eqs_at shape.counts → notes ≡ notes_at shape.counts
    → (stay ≡ length (left (λ b. cleared session id (note_rows_in (take (shape.notes * 260) (drop notes s))) (filter_row b)) 326 shape.filters (take (to - from) (drop from (take notes s)))))
    × (part ≡ closed_up (λ b. cleared session id (note_rows_in (take (shape.notes * 260) (drop notes s))) (filter_row b)) 326 shape.filters (take (to - from) (drop from (take notes s))))
    → store ≡ pasted 10 (u16 stay) ((take from (take notes s) ++ (part ++ drop (to - from) (drop from (take notes s)))) ++ drop notes s)
    → Answers (Ok tt) (disconnected session id) s store
unfolding store_length notes_at eqs_at filters_at cause argument_causes store_causes first effect filter_change new_eqs note_change change add_all filter_codec filter_row note_rows_in
disconnected_done {part = part} {from = from} {to = to} {notes = notes} session id (shaped v e) k h p q n r t =
    let f = well_formed-fits v e in
    let test = cleared session id v.notes in
    let span : to - from ≡ v.counts.filters * 326 = omega arith in
    let cut : take (v.counts.filters * 326) (drop from (layout v)) ≡ filter_area v = rw p (filter_stretch v f) in
    let back : notes + length v.notes * 260 - notes ≡ length v.notes * 260 = omega arith in
    let found = rw back at (notes_read v f n) in
    let there = part_before (layout v) from (to - from) notes (omega arith) in
    let left = left_told filter_reads _ _ f.filter_texts f.filters test (layout v) from cut span (rw (there, found) at r) in
    let whole = part_written (layout v) part from to notes (omega arith) (omega arith) (omega (arith, layout-length v f)) in
    done_by (disconnected session id) v e (rw (le-ltb 64 (length id) k, le-ltb 255 session (omega arith)))
    (t ∙ rw (whole, left.1, left.0, p, q) (with_filters v f (keep (λ r. not (test r)) v.filters)))
