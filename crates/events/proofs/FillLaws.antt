-- The rows of an event pushed to a table as laid out: they are added as the specification adds them, or the table is full and can be put back.
-- Assumes nothing.
use Prim.Native.Nat.{ℕ, suc, ◌*◌, ◌-◌, ◌≤◌, ◌<◌}
use mathlib.Core.Path.{◌≡◌, refl, sym, ap, ◌∙◌}
use mathlib.Core.Bool.{Bool, true, false, ◌&&◌, ◌||◌, cond, beq}
use mathlib.Core.List.{List, [], ◌∷◌, ◌++◌, map, append_assoc, append-nil}
use Rattle.std.specs.Prelude.{Option, None, Some}
use native.Mathlib.Omega.{arith}
use borrow.Author.Tests.{le-ltb, ltb-false, leb-true, leb-false}
use lib.Dec.{leb}
use lib.ListN.{length, take, drop, replicate, length-append, take-append-drop}
use lib.Seq.{take_all}
use Rattle.text.proofs.Laws.{or_split}
use Rattle.topic.specs.Topic.{valid_filter}
use Rattle.table.specs.Table.{some_row, keep, add, add_all}
use Rattle.table.specs.Bytes.{push_answer, pushed, cleared, restored}
use Rattle.table.specs.declared.Pushed.{Pushed}
use Rattle.table.specs.declared.Pushed.TheVariants.{Present, Added, Full}
use Rattle.table.proofs.TableLaws.{Equals, some_append, some_map, some_keep, none_of}
use Rattle.rule.specs.Limits.{text_limit, id_limit}
use Rattle.rule.specs.RuleText.{Filled, of_kind}
use Rattle.store.specs.Store.{FilterRow, EqRow, NoteRow}
use Rattle.store.specs.Layout.{Codec, filter_codec, numbered_codec, eq_codec, note_codec, area}
use Rattle.store.proofs.LayoutLaws.{Reads, area-length, long_filter, long_eq, long_note}
use Rattle.store.proofs.AreaLaws.{present_told, added_told, full_told, push_area, add_good, restore_area, Appends, add_all-appends}
use Rattle.events.specs.Pushes.{filter_bytes, numbered_bytes, pushes_answer, pushes, filter_in, eq_in, filled_bytes, all_answer, all_pushed}
use Rattle.events.specs.declared.Table.TheVariants.{Filters, Eqs, Notes}
use Rattle.events.proofs.TemplateWalk.{is_long}
use Rattle.events.proofs.PushLaws.{filter_bytes_lem, no_filter_bytes, all_present, all_added, all_full, Alike, same_alike}

-- ---- the rows that are pushed

alike-cons : (row : Option (List ℕ)) {rows rows₁ : List (Option (List ℕ))} → Alike rows rows₁ → Alike (row ∷ rows) (row ∷ rows₁)
alike-cons row {rows} {rows₁} e = record { come = λ used part. at used part (pushes_answer row used part) refl }
  where
    at : (used : ℕ) (part : List ℕ) (a : Pushed) → pushes_answer row used part ≡ a
        → (all_answer (row ∷ rows) used part ≡ all_answer (row ∷ rows₁) used part) × (all_pushed (row ∷ rows) used part ≡ all_pushed (row ∷ rows₁) used part)
    at used part Present q =
        let one = all_present row rows used part q in
        let other = all_present row rows₁ used part q in
        let rest = e.come used (pushes row used part) in
        (one.0 ∙ (rest.0 ∙ sym other.0), one.1 ∙ (rest.1 ∙ sym other.1))
    at used part Added q =
        let one = all_added row rows used part q in
        let other = all_added row rows₁ used part q in
        let rest = e.come (suc used) (pushes row used part) in
        (one.0 ∙ (rest.0 ∙ sym other.0), one.1 ∙ (rest.1 ∙ sym other.1))
    at used part Full q =
        let one = all_full row rows used part q in
        let other = all_full row rows₁ used part q in
        (one.0 ∙ sym other.0, one.1 ∙ sym other.1)

alike-none : (rows : List (Option (List ℕ))) → Alike (None ∷ rows) rows
unfolding all_answer all_pushed pushes_answer pushes
alike-none rows = record { come = λ used part. (refl, refl) }

alike_then : {rows rows₁ rows₂ : List (Option (List ℕ))} → Alike rows rows₁ → Alike rows₁ rows₂ → Alike rows rows₂
alike_then e f = record { come = λ used part. ((e.come used part).0 ∙ (f.come used part).0, (e.come used part).1 ∙ (f.come used part).1) }

-- rows as they are pushed
abbrev pub puts : {Row : Type 0} → Codec Row → List Row → List (Option (List ℕ))
puts c rs = map (λ r. Some (c.put r)) rs

-- a text that is not over 256 is written whole
numbered_bytes_lem : (n : ℕ) (text : List ℕ) → length text ≤ text_limit → numbered_bytes n text ≡ Some (eq_codec.put (record { rule = n; text = text }))
unfolding numbered_bytes
numbered_bytes_lem n text h = λ i. Some (eq_codec.put (record { rule = n; text = take_all text_limit text h i }))

note_bytes : (n : ℕ) (text : List ℕ) → length text ≤ text_limit → numbered_bytes n text ≡ Some (note_codec.put (record { session = n; text = text }))
unfolding numbered_codec
note_bytes n text h = numbered_bytes_lem n text h

short_text : (f : Filled) (fs : List Filled) → some_row is_long (f ∷ fs) ≡ false → (length f.text ≤ text_limit) × (some_row is_long fs ≡ false)
unfolding some_row
short_text f fs e = let s = or_split (is_long f) (some_row is_long fs) e in (ltb-false text_limit (length f.text) s.0, s.1)

module _ (session : ℕ) (id : List ℕ) where
  abbrev pub filter_row : Filled → FilterRow
  filter_row f = record { rule = f.rule; text = f.text; owner = id }

  abbrev pub eq_row : Filled → EqRow
  eq_row f = record { rule = f.rule; text = f.text }

  abbrev pub note_row : Filled → NoteRow
  note_row f = record { session = session; text = f.text }

  abbrev valid : Filled → Bool
  valid f = valid_filter f.text

  pub new_filters : length id ≤ id_limit → (fs : List Filled) → some_row is_long fs ≡ false
      → Alike (map (filled_bytes Filters session id) fs) (puts filter_codec (map filter_row (keep valid (of_kind false fs))))
  unfolding filled_bytes filter_in eq_in of_kind keep
  new_filters h [] e = same_alike refl
  new_filters h (f ∷ fs) e = let s = short_text f fs e in at f.eq (valid_filter f.text) refl s.0 (new_filters h fs s.1)
    where
      at : (b w : Bool) → valid_filter f.text ≡ w → length f.text ≤ text_limit
          → Alike (map (filled_bytes Filters session id) fs) (puts filter_codec (map filter_row (keep valid (of_kind false fs))))
          → Alike (cond b None (filter_bytes f.rule f.text id) ∷ map (filled_bytes Filters session id) fs)
          (puts filter_codec (map filter_row (keep valid (cond (beq b false) (f ∷ of_kind false fs) (of_kind false fs)))))
      at true w q k ih = alike_then (alike-none (map (filled_bytes Filters session id) fs)) ih
      at false true q k ih =
          let bytes = filter_bytes_lem f.rule f.text id q ∙ (λ i. Some (filter_codec.put (record { rule = f.rule; text = take_all text_limit f.text k i; owner = take_all id_limit id h i }))) in
          let kept = ap (λ b. puts filter_codec (map filter_row (cond b (f ∷ keep valid (of_kind false fs)) (keep valid (of_kind false fs))))) (sym q) in
          alike_then (same_alike (ap (λ r. r ∷ map (filled_bytes Filters session id) fs) bytes)) (alike_then (alike-cons (Some (filter_codec.put (filter_row f))) ih) (same_alike kept))
      at false false q k ih =
          let kept = ap (λ b. puts filter_codec (map filter_row (cond b (f ∷ keep valid (of_kind false fs)) (keep valid (of_kind false fs))))) (sym q) in
          alike_then (same_alike (ap (λ r. r ∷ map (filled_bytes Filters session id) fs) (no_filter_bytes f.rule f.text id q)))
          (alike_then (alike-none (map (filled_bytes Filters session id) fs)) (alike_then ih (same_alike kept)))

  pub new_eqs_lem : (fs : List Filled) → some_row is_long fs ≡ false → Alike (map (filled_bytes Eqs session id) fs) (puts eq_codec (map eq_row (of_kind true fs)))
  unfolding filled_bytes filter_in eq_in of_kind
  new_eqs_lem [] e = same_alike refl
  new_eqs_lem (f ∷ fs) e = let s = short_text f fs e in at f.eq s.0 (new_eqs_lem fs s.1)
    where
      at : (b : Bool) → length f.text ≤ text_limit → Alike (map (filled_bytes Eqs session id) fs) (puts eq_codec (map eq_row (of_kind true fs)))
          → Alike (cond b (numbered_bytes f.rule f.text) None ∷ map (filled_bytes Eqs session id) fs)
          (puts eq_codec (map eq_row (cond (beq b true) (f ∷ of_kind true fs) (of_kind true fs))))
      at true k ih =
          alike_then (same_alike (ap (λ r. r ∷ map (filled_bytes Eqs session id) fs) (numbered_bytes_lem f.rule f.text k))) (alike-cons (Some (eq_codec.put (eq_row f))) ih)
      at false k ih = alike_then (alike-none (map (filled_bytes Eqs session id) fs)) ih

  pub new_notes : (fs : List Filled) → some_row is_long fs ≡ false → Alike (map (filled_bytes Notes session id) fs) (puts note_codec (map note_row (of_kind false fs)))
  unfolding filled_bytes filter_in eq_in of_kind
  new_notes [] e = same_alike refl
  new_notes (f ∷ fs) e = let s = short_text f fs e in at f.eq s.0 (new_notes fs s.1)
    where
      at : (b : Bool) → length f.text ≤ text_limit → Alike (map (filled_bytes Notes session id) fs) (puts note_codec (map note_row (of_kind false fs)))
          → Alike (cond b None (numbered_bytes session f.text) ∷ map (filled_bytes Notes session id) fs)
          (puts note_codec (map note_row (cond (beq b false) (f ∷ of_kind false fs) (of_kind false fs))))
      at true k ih = alike_then (alike-none (map (filled_bytes Notes session id) fs)) ih
      at false k ih =
          alike_then (same_alike (ap (λ r. r ∷ map (filled_bytes Notes session id) fs) (note_bytes session f.text k))) (alike-cons (Some (note_codec.put (note_row f))) ih)

  -- none of them is too long
  kind_short : (b : Bool) (fs : List Filled) → some_row is_long fs ≡ false → some_row is_long (of_kind b fs) ≡ false
  unfolding of_kind some_row
  kind_short b [] e = refl
  kind_short b (f ∷ fs) e = let s = or_split (is_long f) (some_row is_long fs) e in at (beq f.eq b) s.0 (kind_short b fs s.1)
    where
      at : (k : Bool) → is_long f ≡ false → some_row is_long (of_kind b fs) ≡ false → some_row is_long (cond k (f ∷ of_kind b fs) (of_kind b fs)) ≡ false
      at true q ih = rw q ih
      at false q ih = ih

  pub filters_short : length id ≤ id_limit → (fs : List Filled) → some_row is_long fs ≡ false → some_row long_filter (map filter_row (keep valid (of_kind false fs))) ≡ false
  filters_short h fs e =
      some_map long_filter filter_row (keep valid (of_kind false fs))
      ∙ (some_keep (λ f. long_filter (filter_row f)) valid (of_kind false fs)
      ∙ none_of (of_kind false fs) (λ f q. rw (q, le-ltb id_limit (length id) h)) (kind_short false fs e))

  pub eqs_short : (fs : List Filled) → some_row is_long fs ≡ false → some_row long_eq (map eq_row (of_kind true fs)) ≡ false
  eqs_short fs e = some_map long_eq eq_row (of_kind true fs) ∙ kind_short true fs e

  pub notes_short : (fs : List Filled) → some_row is_long fs ≡ false → some_row long_note (map note_row (of_kind false fs)) ≡ false
  notes_short fs e = some_map long_note note_row (of_kind false fs) ∙ kind_short false fs e

-- ---- rows pushed to a table as laid out

add-length : {Row : Type 0} (same_row : Row → Row → Bool) (r : Row) (rs : List Row) → length (add same_row r rs) ≤ suc (length rs)
unfolding add
add-length same_row r rs = at (some_row (same_row r) rs)
  where
    at : (b : Bool) → length (cond b rs (rs ++ (r ∷ []))) ≤ suc (length rs)
    at true = omega arith
    at false = omega (arith, length-append rs (r ∷ []))

-- where the rows found no room: the table is full of rows behind those it had
pub record Stopped {Row : Type 0} (c : Codec Row) (bad : Row → Bool) (room : ℕ) (rs : List Row) (part : List ℕ) : Type 0 where
  pub more : List Row
  pub count : length (rs ++ more) ≡ room
  pub good : some_row bad more ≡ false
  pub left : part ≡ area c room (rs ++ more)

module _ {Row : Type 0} {c : Codec Row} {bad : Row → Bool} {same_row : Row → Row → Bool} (R : Reads c bad) (E : Equals same_row) (room : ℕ) (size : 0 < c.size) where
  module _ (r : Row) (new rs : List Row) (g : bad r ≡ false) (good : some_row bad rs ≡ false) (fits : length rs ≤ room) where
    area_step : length (add same_row r rs) ≤ room
        → (all_answer (puts c (r ∷ new)) (length rs) (area c room rs) ≡ all_answer (puts c new) (length (add same_row r rs)) (area c room (add same_row r rs)))
        × (all_pushed (puts c (r ∷ new)) (length rs) (area c room rs) ≡ all_pushed (puts c new) (length (add same_row r rs)) (area c room (add same_row r rs)))
    unfolding pushes_answer pushes
    area_step h = at (push_answer (c.put r) (length rs) (area c room rs)) refl
      where
        left : pushed (c.put r) (length rs) (area c room rs) ≡ area c room (add same_row r rs)
        left = push_area R E room rs good fits r g h

        at : (a : Pushed) → push_answer (c.put r) (length rs) (area c room rs) ≡ a
            → (all_answer (puts c (r ∷ new)) (length rs) (area c room rs) ≡ all_answer (puts c new) (length (add same_row r rs)) (area c room (add same_row r rs)))
            × (all_pushed (puts c (r ∷ new)) (length rs) (area c room rs) ≡ all_pushed (puts c new) (length (add same_row r rs)) (area c room (add same_row r rs)))
        at Present e =
            let count = ap length (sym (present_told R E room rs good fits r g size refl e)) in
            let step = all_present (Some (c.put r)) (puts c new) (length rs) (area c room rs) e in
            (step.0 ∙ (λ i. all_answer (puts c new) (count i) (left i)), step.1 ∙ (λ i. all_pushed (puts c new) (count i) (left i)))
        at Added e =
            let told = added_told R E room rs good fits r g size refl e in
            let count : suc (length rs) ≡ length (add same_row r rs) = omega (arith, ap length told.0, length-append rs (r ∷ [])) in
            let step = all_added (Some (c.put r)) (puts c new) (length rs) (area c room rs) e in
            (step.0 ∙ (λ i. all_answer (puts c new) (count i) (left i)), step.1 ∙ (λ i. all_pushed (puts c new) (count i) (left i)))
        at Full e = absurd (omega (arith, full_told R E room rs good fits r g size refl e))

    area_stop : room < length (add same_row r rs)
        → (all_answer (puts c (r ∷ new)) (length rs) (area c room rs) ≡ None) × (all_pushed (puts c (r ∷ new)) (length rs) (area c room rs) ≡ area c room rs)
    unfolding pushes_answer pushes
    area_stop h = at (push_answer (c.put r) (length rs) (area c room rs)) refl
      where
        at : (a : Pushed) → push_answer (c.put r) (length rs) (area c room rs) ≡ a
            → (all_answer (puts c (r ∷ new)) (length rs) (area c room rs) ≡ None) × (all_pushed (puts c (r ∷ new)) (length rs) (area c room rs) ≡ area c room rs)
        at Present e = absurd (omega (arith, ap length (present_told R E room rs good fits r g size refl e)))
        at Added e =
            let told = added_told R E room rs good fits r g size refl e in
            absurd (omega (arith, told.1, ap length told.0, length-append rs (r ∷ [])))
        at Full e = all_full (Some (c.put r)) (puts c new) (length rs) (area c room rs) e

  area_used : (new rs : List Row) → some_row bad new ≡ false → some_row bad rs ≡ false → length rs ≤ room → length (add_all same_row new rs) ≤ room
      → (all_answer (puts c new) (length rs) (area c room rs) ≡ Some (length (add_all same_row new rs)))
      × (all_pushed (puts c new) (length rs) (area c room rs) ≡ area c room (add_all same_row new rs))
  unfolding add_all all_answer all_pushed some_row
  area_used [] rs e good fits h = (refl, refl)
  area_used (r ∷ new) rs e good fits h =
      let g = or_split (bad r) (some_row bad new) e in
      let appends = add_all-appends same_row new (add same_row r rs) in
      let within : length (add same_row r rs) ≤ room = omega (arith, ap length appends.whole, length-append (add same_row r rs) appends.appended) in
      let step = area_step r new rs g.0 good fits within in
      let more = area_used new (add same_row r rs) g.1 (add_good R E room rs good fits r g.0) within h in
      (step.0 ∙ more.0, step.1 ∙ more.1)

  area_full : (new rs : List Row) → some_row bad new ≡ false → some_row bad rs ≡ false → length rs ≤ room → room < length (add_all same_row new rs)
      → (all_answer (puts c new) (length rs) (area c room rs) ≡ None) × Stopped c bad room rs (all_pushed (puts c new) (length rs) (area c room rs))
  unfolding add_all some_row
  area_full [] rs e good fits h = absurd (omega arith)
  area_full (r ∷ new) rs e good fits h =
      let g = or_split (bad r) (some_row bad new) e in
      at (leb (length (add same_row r rs)) room) refl g.0
      (λ within. area_full new (add same_row r rs) g.1 (add_good R E room rs good fits r g.0) within h)
    where
      at : (b : Bool) → leb (length (add same_row r rs)) room ≡ b → bad r ≡ false
          → (length (add same_row r rs) ≤ room
          → (all_answer (puts c new) (length (add same_row r rs)) (area c room (add same_row r rs)) ≡ None)
          × Stopped c bad room (add same_row r rs) (all_pushed (puts c new) (length (add same_row r rs)) (area c room (add same_row r rs))))
          → (all_answer (puts c (r ∷ new)) (length rs) (area c room rs) ≡ None) × Stopped c bad room rs (all_pushed (puts c (r ∷ new)) (length rs) (area c room rs))
      at true q g onward =
          let within = leb-true (length (add same_row r rs)) room q in
          let step = area_step r new rs g good fits within in
          let full = onward within in
          let one = add_all-appends same_row (r ∷ []) rs in
          let S = full.1 in
          let whole : add same_row r rs ++ S.more ≡ rs ++ (one.appended ++ S.more) = ap (λ l. l ++ S.more) one.whole ∙ append_assoc rs one.appended S.more in
          let short = one.good bad (ap (λ b. b || false) g) in (
            step.0 ∙ full.0,
            record {
              more = one.appended ++ S.more;
              count = sym (ap length whole) ∙ S.count;
              good = some_append bad one.appended S.more ∙ rw (short, S.good);
              left = step.1 ∙ (S.left ∙ ap (area c room) whole);
            },
          )
      at false q g onward =
          let beyond = leb-false (length (add same_row r rs)) room q in
          let stop = area_stop r new rs g good fits beyond in (
            stop.0,
            record {
              more = [];
              count = omega (arith, add-length same_row r rs, ap length (append-nil rs));
              good = refl;
              left = stop.1 ∙ ap (area c room) (sym (append-nil rs));
            },
          )

  module _ (new rs : List Row) (short : some_row bad new ≡ false) (good : some_row bad rs ≡ false) (fits : length rs ≤ room) {rows : List (Option (List ℕ))}
      (alike : Alike rows (puts c new)) {answer : Option ℕ} (told : answer ≡ all_answer rows (length rs) (area c room rs)) where
    answered : answer ≡ all_answer (puts c new) (length rs) (area c room rs)
    answered = told ∙ (alike.come (length rs) (area c room rs)).0

    -- what an answer tells
    pub used_told : {n : ℕ} → answer ≡ Some n
        → (length (add_all same_row new rs) ≤ room) × (n ≡ length (add_all same_row new rs)) × (all_pushed rows (length rs) (area c room rs) ≡ area c room (add_all same_row new rs))
    used_told {n} e = at (leb (length (add_all same_row new rs)) room) refl
      where
        at : (b : Bool) → leb (length (add_all same_row new rs)) room ≡ b
            → (length (add_all same_row new rs) ≤ room) × (n ≡ length (add_all same_row new rs)) × (all_pushed rows (length rs) (area c room rs) ≡ area c room (add_all same_row new rs))
        at true q =
            let within = leb-true (length (add_all same_row new rs)) room q in
            let all = area_used new rs short good fits within in
            let same : Some n ≡ Some (length (add_all same_row new rs)) = sym e ∙ (answered ∙ all.0) in
            (within, cc, (alike.come (length rs) (area c room rs)).1 ∙ all.1)
        at false q =
            let all = area_full new rs short good fits (leb-false (length (add_all same_row new rs)) room q) in
            let same : Some n ≡ None = sym e ∙ (answered ∙ all.0) in
            let z : ◌≡◌ {A = ℕ} 0 1 = cc in absurd (omega arith)

    pub stopped_told : answer ≡ None → (room < length (add_all same_row new rs)) × Stopped c bad room rs (all_pushed rows (length rs) (area c room rs))
    stopped_told e = at (leb (length (add_all same_row new rs)) room) refl
      where
        at : (b : Bool) → leb (length (add_all same_row new rs)) room ≡ b
            → (room < length (add_all same_row new rs)) × Stopped c bad room rs (all_pushed rows (length rs) (area c room rs))
        at true q =
            let all = area_used new rs short good fits (leb-true (length (add_all same_row new rs)) room q) in
            let same : None ≡ Some (length (add_all same_row new rs)) = sym e ∙ (answered ∙ all.0) in
            let z : ◌≡◌ {A = ℕ} 0 1 = cc in absurd (omega arith)
        at false q =
            let beyond = leb-false (length (add_all same_row new rs)) room q in
            let S = (area_full new rs short good fits beyond).1 in
            (beyond, record { more = S.more; count = S.count; good = S.good; left = (alike.come (length rs) (area c room rs)).1 ∙ S.left })

-- put back: a table that is full, one with rows added, one as it was
module _ {Row : Type 0} {c : Codec Row} {bad : Row → Bool} (R : Reads c bad) (room : ℕ) (rs : List Row) (good : some_row bad rs ≡ false) where
  pub stopped_back : {part : List ℕ} → Stopped c bad room rs part → restored c.size (length rs) room part ≡ area c room rs
  stopped_back S =
      (λ i. restored c.size (length rs) (sym S.count i) (S.left i)) ∙ restore_area R room rs good S.more S.good (omega (arith, S.count))

  pub stopped-length : {part : List ℕ} → Stopped c bad room rs part → length part ≡ room * c.size
  stopped-length S = ap length S.left ∙ area-length R room (rs ++ S.more) (some_append bad rs S.more ∙ rw (good, S.good)) (omega (arith, S.count))

  module _ (same_row : Row → Row → Bool) (new : List Row) (short : some_row bad new ≡ false) (fits : length (add_all same_row new rs) ≤ room) where
    appends : Appends new rs (add_all same_row new rs)
    appends = add_all-appends same_row new rs

    pub added_good : some_row bad (add_all same_row new rs) ≡ false
    added_good = ap (some_row bad) appends.whole ∙ (some_append bad rs appends.appended ∙ rw (good, appends.good bad short))

    pub added_back : restored c.size (length rs) (length (add_all same_row new rs)) (area c room (add_all same_row new rs)) ≡ area c room rs
    added_back =
        (λ i. restored c.size (length rs) (length (appends.whole i)) (area c room (appends.whole i)))
        ∙ restore_area R room rs good appends.appended (appends.good bad short) (omega (arith, ap length appends.whole))

pub none_back : (size n : ℕ) (part : List ℕ) → restored size n n part ≡ part
unfolding restored cleared
none_back size n part = at (leb (n * size) (n * size)) (leb (n * size) (length part))
  where
    whole : take (n * size) part ++ (replicate (n * size - n * size) 0 ++ drop (n * size) part) ≡ part
    whole = let gone : n * size - n * size ≡ 0 = omega arith in rw gone (take-append-drop (n * size) part)

    at : (a b : Bool) → cond (a && b) (take (n * size) part ++ (replicate (n * size - n * size) 0 ++ drop (n * size) part)) part ≡ part
    at true true = whole
    at true false = refl
    at false b = refl
