-- What `push`, `remove_marked` and `restore` of the table crate do to a table as laid out, once for all three tables; and a store in which
-- one table's stretch and its number in the header were written. Assumes nothing.
use Prim.Native.Nat.{ℕ, zero, suc, ◌+◌, ◌*◌, ◌-◌, ◌≤◌, ◌<◌}
use mathlib.Core.Path.{◌≡◌, refl, sym, ap, ◌∙◌}
use mathlib.Core.Bool.{Bool, true, false, not, cond}
use mathlib.Core.List.{List, [], ◌∷◌, ◌++◌, map, append_assoc, append-nil, map-append}
use native.Mathlib.Nat.{mul-le-mul_right, mul_comm, mul-sub, sub-zero}
use native.Mathlib.Omega.{arith}
use borrow.Author.Tests.{le-leb, lt-leb, ltb-true, ltb-false}
use lib.Dec.{eqb, leb, ltb}
use lib.ListN.{length, take, drop, replicate, length-append, length-map, replicate-append-replicate}
use lib.Seq.{drop-drop, take-append_seam, take-append-le, drop-append-le, take_at}
use Rattle.text.specs.Text.{same, fits_at, pasted}
use Rattle.text.proofs.Laws.{both_true, or_split, same_true, same_itself, pasted_fits, pasted_not}
use Rattle.table.specs.Table.{some_row, keep, add, add_all}
use Rattle.table.specs.Bytes.{u16, present, push_answer, pushed, unmarked, join, kept, cleared, removed, restored}
use Rattle.table.specs.declared.Pushed.{Pushed}
use Rattle.table.specs.declared.Pushed.TheVariants.{Present, Added, Full}
use Rattle.table.proofs.TableLaws.{Equals, some_on, some_map, some_append, none_at, none_of, some_keep, length-keep}
use Rattle.table.proofs.RowLaws.{join_append}
use Rattle.table.proofs.ByteLaws.{cleared_fits}
use Rattle.store.specs.declared.Counts.{Counts}
use Rattle.store.specs.Store.{FilterRow, EqRow, NoteRow, View}
use Rattle.store.specs.Layout.{pad, Codec, filter_codec, numbered_codec, eq_codec, note_codec, put_all, area, header, layout, filters_at, eqs_at, notes_at}
use Rattle.store.proofs.LayoutLaws.{pad-length, pad-take, pad-drop, Reads, filter_reads, eq_reads, put_all-length, area-length, area-rows, area_unused, Fits, filter_area, eq_area, note_area, long_filter, long_eq, long_note, from_eqs, from_notes}

-- ---- padding

drop_replicate : (k n : ℕ) → drop {A = ℕ} k (replicate n 0) ≡ replicate (n - k) 0
drop_replicate zero n = rw (sub-zero n)
drop_replicate (suc k) zero = let none : 0 - suc k ≡ 0 = omega arith in rw none
drop_replicate (suc k) (suc n) = let less : suc n - suc k ≡ n - k = omega arith in rw less (drop_replicate k n)

-- a text behind a padded one takes the place of the padding
pad-pasted : (width : ℕ) (text more : List ℕ) → length text + length more ≤ width → pasted (length text) more (pad width text) ≡ pad width (text ++ more)
pad-pasted width text more h =
    let room = pad-length width text (omega arith) in
    let left : width - (length text + length more) ≡ width - length text - length more = omega arith in
    rw (
      pasted_fits (length text) more (pad width text) (omega arith),
      pad-take width text,
      ← drop-drop (length more) (length text) (pad width text),
      pad-drop width text,
      drop_replicate (length more) (width - length text),
      ← left,
      ← length-append text more,
    )
    (unfold pad in sym (append_assoc text more _))

-- and goes again
pad-cleared : (width : ℕ) (text more : List ℕ) → length (text ++ more) ≤ width
    → cleared (length text) (length (text ++ more)) (pad width (text ++ more)) ≡ pad width text
pad-cleared width text more h =
    let longer = length-append text more in
    let front : take (length text) (pad width (text ++ more)) ≡ text = unfold pad in rw (append_assoc text more _) (take-append_seam text _) in
    let gap : length (text ++ more) - length text + (width - length (text ++ more)) ≡ width - length text = omega arith in
    rw (
      cleared_fits (length text) (length (text ++ more)) (pad width (text ++ more)) (omega arith) (omega (arith, pad-length width (text ++ more) h)),
      front,
      pad-drop width (text ++ more),
      replicate-append-replicate {A = ℕ} (length (text ++ more) - length text) (width - length (text ++ more)) 0,
      gap,
    )
    (unfold pad in refl)

-- ---- rows

pub put_all-append : {Row : Type 0} (c : Codec Row) (rs more : List Row) → put_all c (rs ++ more) ≡ put_all c rs ++ put_all c more
unfolding put_all
put_all-append c rs more = rw (map-append c.put rs more) (join_append (map c.put rs) (map c.put more))

put_all_one : {Row : Type 0} (c : Codec Row) (r : Row) → put_all c (r ∷ []) ≡ c.put r
unfolding put_all join
put_all_one c r = append-nil (c.put r)

none_one : {Row : Type 0} (bad : Row → Bool) (r : Row) → bad r ≡ false → some_row bad (r ∷ []) ≡ false
unfolding some_row
none_one bad r g = rw g

-- ---- removal

-- a mark of 1 for each row that passes the test: the others stay
unmarked_rows : {Row : Type 0} (c : Codec Row) (test : Row → Bool) (rs : List Row) (marks : List ℕ)
    → take (length rs) marks ≡ map (λ r. cond (test r) 1 0) rs → unmarked marks (map c.put rs) ≡ map c.put (keep (λ r. not (test r)) rs)
unfolding unmarked keep
unmarked_rows c test [] marks e = refl
unmarked_rows c test (r ∷ rs) [] e = let z : ◌≡◌ {A = ℕ} 0 1 = cc in absurd (omega arith)
unmarked_rows c test (r ∷ rs) (m ∷ marks) e =
    let first : m ≡ cond (test r) 1 0 = cc in
    let others : take (length rs) marks ≡ map (λ r. cond (test r) 1 0) rs = cc in
    rw first (at (test r) (unmarked_rows c test rs marks others))
  where
    at : (b : Bool) → unmarked marks (map c.put rs) ≡ map c.put (keep (λ t. not (test t)) rs)
        → cond (eqb (cond b 1 0) 0) (c.put r ∷ unmarked marks (map c.put rs)) (unmarked marks (map c.put rs))
        ≡ map c.put (cond (not b) (r ∷ keep (λ t. not (test t)) rs) (keep (λ t. not (test t)) rs))
    at true q = q
    at false q = ap (λ (l : List (List ℕ)). c.put r ∷ l) q

-- a table without bad rows has none once some are gone
pub kept_good : {Row : Type 0} (bad test : Row → Bool) (rs : List Row) → some_row bad rs ≡ false → some_row bad (keep (λ r. not (test r)) rs) ≡ false
kept_good bad test rs good = rw (some_keep bad (λ r. not (test r)) rs) (none_of rs (λ r h. rw h) good)

area_parts : {Row : Type 0} {c : Codec Row} {bad : Row → Bool} → Reads c bad → (room : ℕ) (rs : List Row) → some_row bad rs ≡ false
    → area c room rs ≡ put_all c rs ++ replicate (room * c.size - length rs * c.size) 0
unfolding area pad
area_parts R room rs good = rw (put_all-length R rs good)

module _ {Row : Type 0} {c : Codec Row} {bad : Row → Bool} (R : Reads c bad) (room : ℕ) (rs : List Row) (good : some_row bad rs ≡ false) where
  module _ (test : Row → Bool) (marks : List ℕ) (e : take (length rs) marks ≡ map (λ r. cond (test r) 1 0) rs) where
    kept_rows : kept c.size (length rs) marks (area c room rs) ≡ map c.put (keep (λ r. not (test r)) rs)
    unfolding kept
    kept_rows = rw (area-rows R room rs good) (unmarked_rows c test rs marks e)

    pub remove_count : length (kept c.size (length rs) marks (area c room rs)) ≡ length (keep (λ r. not (test r)) rs)
    remove_count = rw kept_rows (length-map (keep (λ r. not (test r)) rs) c.put)

    pub remove_area : length rs ≤ room → removed c.size (length rs) marks (area c room rs) ≡ area c room (keep (λ r. not (test r)) rs)
    unfolding removed put_all
    remove_area h =
        let stay = keep (λ r. not (test r)) rs in
        let fewer = mul-le-mul_right c.size (length-keep (λ r. not (test r)) rs) in
        let fits = mul-le-mul_right c.size h in
        let gone : (length rs - length stay) * c.size ≡ length rs * c.size - length stay * c.size =
        mul_comm _ c.size ∙ (mul-sub c.size (length rs) (length stay) ∙ simp mul_comm) in
        let gap : (length rs - length stay) * c.size + (room * c.size - length rs * c.size) ≡ room * c.size - length stay * c.size = omega arith in
        rw (
          remove_count,
          kept_rows,
          area-rows R room rs good,
          length-map rs c.put,
          area_unused R room rs good,
          replicate-append-replicate {A = ℕ} ((length rs - length stay) * c.size) (room * c.size - length rs * c.size) 0,
          gap,
        )
        (sym (area_parts R room stay (kept_good bad test rs good)))

  -- rows behind those of a table
  module _ (more : List Row) (e : some_row bad more ≡ false) (h : length (rs ++ more) ≤ room) where
    all_length : length (put_all c (rs ++ more)) ≡ length (rs ++ more) * c.size
    all_length = put_all-length R (rs ++ more) (some_append bad rs more ∙ rw (good, e))

    all_fit : length (put_all c rs ++ put_all c more) ≤ room * c.size
    all_fit = rw (← put_all-append c rs more) (omega (arith, all_length, mul-le-mul_right c.size h))

    -- they are put there
    rows_pasted : pasted (length rs * c.size) (put_all c more) (area c room rs) ≡ area c room (rs ++ more)
    unfolding area
    rows_pasted =
        rw (← put_all-length R rs good, put_all-append c rs more)
        (pad-pasted (room * c.size) (put_all c rs) (put_all c more) (omega (arith, all_fit, length-append (put_all c rs) (put_all c more))))

    -- and go again
    pub restore_area : restored c.size (length rs) (length (rs ++ more)) (area c room (rs ++ more)) ≡ area c room rs
    unfolding restored area
    restore_area =
        rw (← put_all-length R rs good, ← all_length, put_all-append c rs more) (pad-cleared (room * c.size) (put_all c rs) (put_all c more) all_fit)

-- ---- what `push` answers and does

-- rows are equal as written if and only if they are equal
put_same : {Row : Type 0} {c : Codec Row} {bad : Row → Bool} {same_row : Row → Row → Bool} → Reads c bad → Equals same_row
    → (r t : Row) → bad r ≡ false → bad t ≡ false → same (c.put r) (c.put t) ≡ same_row r t
put_same {c = c} R E r t g h =
    both_true _ _
    (λ q.
    let equal : r ≡ t = sym (R.back r g) ∙ (ap c.get (same_true _ _ q) ∙ R.back t h) in
    rw equal (E.itself t))
    (λ q. rw (E.agree r t q) (same_itself (c.put t)))

module _ {Row : Type 0} {c : Codec Row} {bad : Row → Bool} {same_row : Row → Row → Bool} (R : Reads c bad) (E : Equals same_row)
    (room : ℕ) (rs : List Row) (good : some_row bad rs ≡ false) (fits : length rs ≤ room) (r : Row) (g : bad r ≡ false) where
  pub present-area : present (c.put r) (length rs) (area c room rs) ≡ some_row (same_row r) rs
  unfolding present
  present-area =
      rw (R.sized r g, area-rows R room rs good, some_map (same (c.put r)) c.put rs)
      (some_on rs (λ t m. put_same R E r t g (none_at bad good m)))

  -- is there room for one more?
  fits_area : 0 < c.size → fits_at (length rs * c.size) (c.put r) (area c room rs) ≡ ltb (length rs) room
  unfolding fits_at
  fits_area some = rw (R.sized r g, area-length R room rs good fits) (at (ltb (length rs) room) refl)
    where
      at : (b : Bool) → ltb (length rs) room ≡ b → leb (length rs * c.size + c.size) (room * c.size) ≡ b
      at true e = le-leb (length rs * c.size + c.size) (room * c.size) (omega (arith, mul-le-mul_right c.size (ltb-true (length rs) room e)))
      at false e = lt-leb (length rs * c.size + c.size) (room * c.size) (omega (arith, mul-le-mul_right c.size (ltb-false (length rs) room e)))

  pub push_answers : 0 < c.size
      → push_answer (c.put r) (length rs) (area c room rs) ≡ cond (some_row (same_row r) rs) Present (cond (ltb (length rs) room) Added Full)
  unfolding push_answer
  push_answers some = rw (present-area, R.sized r g, fits_area some)

  pub push_area : length (add same_row r rs) ≤ room → pushed (c.put r) (length rs) (area c room rs) ≡ area c room (add same_row r rs)
  unfolding pushed add
  push_area h = rw (present-area, R.sized r g) (at (some_row (same_row r) rs) h)
    where
      at : (b : Bool) → length (cond b rs (rs ++ (r ∷ []))) ≤ room
          → cond b (area c room rs) (pasted (length rs * c.size) (c.put r) (area c room rs)) ≡ area c room (cond b rs (rs ++ (r ∷ [])))
      at true h = refl
      at false h = rw (put_all_one c r) at (rows_pasted R room rs good (r ∷ []) (none_one bad r g) h)

  pub push_full : 0 < c.size → room < length (add same_row r rs) → pushed (c.put r) (length rs) (area c room rs) ≡ area c room rs
  unfolding pushed add
  push_full some h = rw (present-area, R.sized r g) (at (some_row (same_row r) rs) h)
    where
      at : (b : Bool) → room < length (cond b rs (rs ++ (r ∷ [])))
          → cond b (area c room rs) (pasted (length rs * c.size) (c.put r) (area c room rs)) ≡ area c room rs
      at true h = refl
      at false h =
          let full : room ≤ length rs = omega (arith, length-append rs (r ∷ [])) in
          let whole = area-length R room rs good fits in
          pasted_not _ (c.put r) (area c room rs) (omega (arith, mul-le-mul_right c.size full, R.sized r g))

  pub add_good : some_row bad (add same_row r rs) ≡ false
  unfolding add
  add_good = at (some_row (same_row r) rs)
    where
      at : (b : Bool) → some_row bad (cond b rs (rs ++ (r ∷ []))) ≡ false
      at true = good
      at false = some_append bad rs (r ∷ []) ∙ rw (good, none_one bad r g)

  -- what an answer tells
  module _ {answer : Pushed} (some : 0 < c.size) (a : answer ≡ push_answer (c.put r) (length rs) (area c room rs)) where
    answered : cond (some_row (same_row r) rs) Present (cond (ltb (length rs) room) Added Full) ≡ answer
    answered = sym (push_answers some) ∙ sym a

    pub present_told : answer ≡ Present → add same_row r rs ≡ rs
    unfolding add
    present_told e = at (some_row (same_row r) rs) (ltb (length rs) room) (answered ∙ e)
      where
        at : (b d : Bool) → cond b Present (cond d Added Full) ≡ Present → cond b rs (rs ++ (r ∷ [])) ≡ rs
        at true d e = refl
        at false true e = cc
        at false false e = cc

    pub added_told : answer ≡ Added → (add same_row r rs ≡ rs ++ (r ∷ [])) × (length rs < room)
    unfolding add
    added_told e = at (some_row (same_row r) rs) (ltb (length rs) room) refl (answered ∙ e)
      where
        at : (b d : Bool) → ltb (length rs) room ≡ d → cond b Present (cond d Added Full) ≡ Added
            → (cond b rs (rs ++ (r ∷ [])) ≡ rs ++ (r ∷ [])) × (length rs < room)
        at true d q e = let z : ◌≡◌ {A = ℕ} 0 1 = cc in (cc, omega arith)
        at false true q e = (refl, ltb-true _ _ q)
        at false false q e = let z : ◌≡◌ {A = ℕ} 0 1 = cc in (refl, omega arith)

    pub full_told : answer ≡ Full → room < length (add same_row r rs)
    unfolding add
    full_told e = at (some_row (same_row r) rs) (ltb (length rs) room) refl (answered ∙ e)
      where
        at : (b d : Bool) → ltb (length rs) room ≡ d → cond b Present (cond d Added Full) ≡ Full → room < length (cond b rs (rs ++ (r ∷ [])))
        at true d q e = let z : ◌≡◌ {A = ℕ} 0 1 = cc in omega arith
        at false true q e = let z : ◌≡◌ {A = ℕ} 0 1 = cc in omega arith
        at false false q e = omega (arith, length-append rs (r ∷ []), ltb-false (length rs) room q)

-- ---- adding only appends

-- the rows that were added to `rs`: a test that no new row passes, none of them passes
pub record Appends {Row : Type 0} (new rs all : List Row) : Type 0 where
  pub appended : List Row
  pub whole : all ≡ rs ++ appended
  pub good : (bad : Row → Bool) → some_row bad new ≡ false → some_row bad appended ≡ false

module _ {Row : Type 0} (same_row : Row → Row → Bool) where
  pub add_all-appends : (new rs : List Row) → Appends new rs (add_all same_row new rs)
  unfolding add_all add some_row
  add_all-appends [] rs = record { appended = []; whole = sym (append-nil rs); good = λ bad e. refl }
  add_all-appends (r ∷ new) rs = at (some_row (same_row r) rs) (add_all-appends new (add same_row r rs))
    where
      at : (b : Bool) → Appends new (cond b rs (rs ++ (r ∷ []))) (add_all same_row new (add same_row r rs))
          → Appends (r ∷ new) rs (add_all same_row new (add same_row r rs))
      at true a = record { appended = a.appended; whole = a.whole; good = λ bad e. a.good bad (or_split (bad r) _ e).1 }
      at false a =
          record {
            appended = r ∷ a.appended;
            whole = a.whole ∙ append_assoc rs (r ∷ []) a.appended;
            good = λ bad e. let s = or_split (bad r) _ e in rw s.0 (a.good bad s.1);
          }

-- ---- stores

-- what is pasted to the front of a list leaves what is behind
pasted_front : (at : ℕ) (source front back : List ℕ) → at + length source ≤ length front → pasted at source (front ++ back) ≡ pasted at source front ++ back
pasted_front at source front back h =
    rw (
      pasted_fits at source (front ++ back) (omega (arith, length-append front back)),
      pasted_fits at source front h,
      take-append-le at front back (omega arith),
      drop-append-le (at + length source) front back h,
    )
    (simp append_assoc)

-- a number of the header is replaced
module _ (c : Counts) (text filters eqs notes n : ℕ) where
  filters_put : pasted 10 (u16 n) (header c text filters eqs notes) ≡ header c text n eqs notes
  unfolding pasted fits_at header u16
  filters_put = refl

  eqs_put : pasted 12 (u16 n) (header c text filters eqs notes) ≡ header c text filters n notes
  unfolding pasted fits_at header u16
  eqs_put = refl

  notes_put : pasted 14 (u16 n) (header c text filters eqs notes) ≡ header c text filters eqs n
  unfolding pasted fits_at header u16
  notes_put = refl

-- a number of the header is written, and what is behind a place after it
written : (at n from : ℕ) (head head₁ front old new : List ℕ) → at + 2 ≤ length head → pasted at (u16 n) head ≡ head₁
    → length head + length front ≡ from → pasted at (u16 n) (take from (head ++ (front ++ old)) ++ new) ≡ head₁ ++ (front ++ new)
unfolding u16
written at n from head head₁ front old new h e k =
    rw (
      ← append_assoc head front old,
      take_at (head ++ front) old from (length-append head front ∙ k),
      append_assoc head front new,
      pasted_front at (u16 n) head (front ++ new) h,
      e,
    )

-- a view with other rows in one table
abbrev pub filters_set : View → List FilterRow → View
filters_set v filters = record { counts = v.counts; text = v.text; filters = filters; eqs = v.eqs; notes = v.notes }

abbrev pub eqs_set : View → List EqRow → View
eqs_set v eqs = record { counts = v.counts; text = v.text; filters = v.filters; eqs = eqs; notes = v.notes }

abbrev pub notes_set : View → List NoteRow → View
notes_set v notes = record { counts = v.counts; text = v.text; filters = v.filters; eqs = v.eqs; notes = notes }

-- it fits again
module _ (v : View) (f : Fits v) where
  pub filters_fit : (filters : List FilterRow) → length filters ≤ v.counts.filters → some_row long_filter filters ≡ false → Fits (filters_set v filters)
  filters_fit filters h e = record { text = f.text; filters = h; eqs = f.eqs; notes = f.notes; filter_texts = e; eq_texts = f.eq_texts; note_texts = f.note_texts }

  pub eqs_fit : (eqs : List EqRow) → length eqs ≤ v.counts.eqs → some_row long_eq eqs ≡ false → Fits (eqs_set v eqs)
  eqs_fit eqs h e = record { text = f.text; filters = f.filters; eqs = h; notes = f.notes; filter_texts = f.filter_texts; eq_texts = e; note_texts = f.note_texts }

  pub notes_fit : (notes : List NoteRow) → length notes ≤ v.counts.notes → some_row long_note notes ≡ false → Fits (notes_set v notes)
  notes_fit notes h e = record { text = f.text; filters = f.filters; eqs = f.eqs; notes = h; filter_texts = f.filter_texts; eq_texts = f.eq_texts; note_texts = e }

-- the parts of a layout
abbrev head_of : View → List ℕ
head_of v = header v.counts (length v.text) (length v.filters) (length v.eqs) (length v.notes)

head_length : (v : View) → length (head_of v) ≡ 16
unfolding header u16
head_length v = refl

abbrev text_area : View → List ℕ
text_area v = pad v.counts.bytes v.text

module _ (v : View) (f : Fits v) where
  to_filters : length (head_of v) + length (text_area v) ≡ filters_at v.counts
  unfolding filters_at
  to_filters = rw (head_length v, pad-length v.counts.bytes v.text f.text)

  past_filters : filters_at v.counts + length (filter_area v) ≡ eqs_at v.counts
  unfolding eqs_at filter_codec
  past_filters = ap (λ (n : ℕ). filters_at v.counts + n) (area-length filter_reads _ _ f.filter_texts f.filters)

  past_eqs : eqs_at v.counts + length (eq_area v) ≡ notes_at v.counts
  unfolding notes_at numbered_codec
  past_eqs = ap (λ (n : ℕ). eqs_at v.counts + n) (area-length eq_reads _ _ f.eq_texts f.eqs)

  to_eqs : length (head_of v) + length (text_area v ++ filter_area v) ≡ eqs_at v.counts
  to_eqs = omega (arith, length-append (text_area v) (filter_area v), to_filters, past_filters)

  to_notes : length (head_of v) + length (text_area v ++ (filter_area v ++ eq_area v)) ≡ notes_at v.counts
  to_notes = omega (arith, length-append (text_area v) (filter_area v ++ eq_area v), length-append (filter_area v) (eq_area v), to_filters, past_filters, past_eqs)

  pub with_filters : (filters : List FilterRow)
      → pasted 10 (u16 (length filters))
      (take (filters_at v.counts) (layout v) ++ (area filter_codec v.counts.filters filters ++ drop (eqs_at v.counts) (layout v)))
      ≡ layout (filters_set v filters)
  with_filters filters =
      rw (from_eqs v f)
      (unfold layout in
      written 10 _ _ (head_of v) _ (text_area v) _ _ (omega (arith, head_length v)) (filters_put _ _ _ _ _ (length filters)) to_filters)

  pub with_eqs : (eqs : List EqRow)
      → pasted 12 (u16 (length eqs))
      (take (eqs_at v.counts) (layout v) ++ (area eq_codec v.counts.eqs eqs ++ drop (notes_at v.counts) (layout v)))
      ≡ layout (eqs_set v eqs)
  with_eqs eqs =
      rw (from_notes v f)
      (unfold layout in
      simp append_assoc at
      (written 12 _ _ (head_of v) _ (text_area v ++ filter_area v) (eq_area v ++ note_area v) (eq_area (eqs_set v eqs) ++ note_area v)
      (omega (arith, head_length v)) (eqs_put _ _ _ _ _ (length eqs)) to_eqs))

  pub with_notes : (notes : List NoteRow)
      → pasted 14 (u16 (length notes)) (take (notes_at v.counts) (layout v) ++ area note_codec v.counts.notes notes) ≡ layout (notes_set v notes)
  unfolding layout
  with_notes notes =
      simp append_assoc at
      (written 14 _ _ (head_of v) _ (text_area v ++ (filter_area v ++ eq_area v)) (note_area v) (note_area (notes_set v notes))
      (omega (arith, head_length v)) (notes_put _ _ _ _ _ (length notes)) to_notes)
