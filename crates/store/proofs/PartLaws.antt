-- The parts of a store as the code cuts them: the whole rows from a place on, the used part of a stretch, and what a shape tells. Assumes nothing.
use Prim.Native.Nat.{ℕ, ◌+◌, ◌-◌, ◌*◌, ◌≤◌, ◌<◌}
use mathlib.Core.Path.{◌≡◌, refl, sym, ◌∙◌}
use mathlib.Core.Bool.{Bool, true, false, ◌||◌}
use mathlib.Core.List.{List, [], ◌∷◌, append-nil}
use Rattle.std.specs.Prelude.{Option, None, Some}
use native.Mathlib.Nat.{zero-mul, sub-zero, mul-le-mul_left, mul-le-mul_right, add-sub_cancel_left}
use native.Mathlib.Omega.{arith}
use lib.ListN.{length, take, drop, length-drop}
use lib.Seq.{take-take}
use Rattle.table.specs.Table.{some_row}
use Rattle.table.proofs.RowLaws.{rows_step, rows_short, rows_enough}
use Rattle.store.specs.declared.Shape.{Shape}
use Rattle.store.specs.Store.{store_length, filter_size, eq_size, note_size, View}
use Rattle.store.specs.Layout.{Codec, filter_codec, numbered_codec, eq_codec, note_codec, pad, put_all, get_all, area, layout, filters_at, eqs_at, notes_at, text_part, filter_part, eq_part, note_part}
use Rattle.store.specs.View.{well_formed, view}
use Rattle.store.specs.Check.{shape_of}
use Rattle.store.proofs.LayoutLaws.{pad-take, Reads, filter_reads, eq_reads, note_reads, put_all-length, area_back, Fits, filter_area, eq_area, note_area, counts_back, layout-length, text_part_lem, filter_part_lem, eq_part_lem, note_part_lem, well_formed_parts, openable_parts, well_formed-fits}
use Rattle.store.proofs.OpenLaws.{InRange, fit_range}
use Rattle.store.proofs.ViewLaws.{view-well_formed, view-layout}

-- ---- rows from a place on

-- as many as there are bytes
enough : (size n : ℕ) → 0 < size → n < n * size + size
enough size n h = omega (arith, mul-le-mul_left {m = 1} {n = size} n h)

-- the whole rows from a place on
unfoldable pub rows_from : {Row : Type 0} → Codec Row → ℕ → List ℕ → List Row
rows_from c at s = get_all c (length s) (drop at s)

module _ {Row : Type 0} (c : Codec Row) (at : ℕ) (s : List ℕ) where
  -- the first of them
  pub rows_more : 0 < c.size → at + c.size ≤ length s
      → rows_from c at s ≡ c.get (take (at + c.size - at) (drop at s)) ∷ rows_from c (at + c.size) s
  unfolding rows_from get_all
  rows_more h k =
      let left = length-drop (at + c.size) s in
      let more = rw sub-zero at (rows_step c.size (length s) 0 at s (omega arith) k) in
      let fewer = enough c.size (length s - (0 + 1)) h in
      let all = enough c.size (length s) h in
      let same_rows = rows_enough c.size (length s - (0 + 1)) (length s) (drop (at + c.size) s) (omega arith) (omega arith) in
      rw (more, same_rows, add-sub_cancel_left)

  -- no row is left
  pub rows_none : length s - at < c.size → rows_from c at s ≡ []
  unfolding rows_from get_all
  rows_none h = rw (rows_short c.size (length s) at s h)

  module _ (p : Row → Bool) where
    -- the first of them passes the test or not
    pub some_more : {b : Bool} → 0 < c.size → at + c.size ≤ length s → p (c.get (take (at + c.size - at) (drop at s))) ≡ b
        → some_row p (rows_from c at s) ≡ (b || some_row p (rows_from c (at + c.size) s))
    unfolding some_row
    some_more h k e = rw (rows_more h k, e)

    pub some_none : length s - at < c.size → some_row p (rows_from c at s) ≡ false
    unfolding some_row
    some_none h = rw (rows_none h)

-- ---- the used part of a stretch

cut_pad : {n : ℕ} (from width : ℕ) (text s : List ℕ) → length text ≤ width → take width (drop from s) ≡ pad width text → n ≡ length text
    → take (from + n - from) (drop from s) ≡ text
cut_pad {n} from width text s h whole e = rw (add-sub_cancel_left from n, e, ← take-take (length text) width (drop from s) h, whole) (pad-take width text)

-- a table as laid out
module _ {Row : Type 0} {c : Codec Row} {bad : Row → Bool} (R : Reads c bad) (sized : 0 < c.size) (room : ℕ) (rs : List Row)
    (good : some_row bad rs ≡ false) (fits : length rs ≤ room) where
  -- its used rows, read
  used_rows : get_all c (length (put_all c rs)) (put_all c rs) ≡ rs
  unfolding get_all area pad
  used_rows =
      let size = put_all-length R rs good in
      let all = enough c.size (length (put_all c rs)) sized in
      let same_rows = rows_enough c.size (length (put_all c rs)) (length rs) (put_all c rs) all (omega arith) in
      let unpadded : 0 * c.size - length (put_all c rs) ≡ 0 = omega (arith, zero-mul c.size) in
      rw same_rows (rw (unpadded, append-nil) at (area_back R 0 rs good))

  -- at a place of a store
  used_read : (s : List ℕ) (at : ℕ) → take (room * c.size) (drop at s) ≡ area c room rs
      → let part = take (at + length rs * c.size - at) (drop at s) in get_all c (length part) part ≡ rs
  unfolding area
  used_read s at p =
      let size = put_all-length R rs good in
      let there : length (put_all c rs) ≤ room * c.size = rw size (mul-le-mul_right c.size fits) in
      rw (cut_pad at (room * c.size) (put_all c rs) s there p (sym size)) used_rows

-- the used parts of a store as laid out
module _ (v : View) (f : Fits v) where
  pub text_read : take (16 + length v.text - 16) (drop 16 (layout v)) ≡ v.text
  unfolding text_part
  text_read = cut_pad 16 v.counts.bytes v.text (layout v) f.text (rw (counts_back v) at (text_part_lem v f)) refl

  pub filter_stretch : take (v.counts.filters * filter_size) (drop (filters_at v.counts) (layout v)) ≡ filter_area v
  unfolding filter_part
  filter_stretch = rw (counts_back v) at (filter_part_lem v f)

  eq_stretch : take (v.counts.eqs * eq_size) (drop (eqs_at v.counts) (layout v)) ≡ eq_area v
  unfolding eq_part
  eq_stretch = rw (counts_back v) at (eq_part_lem v f)

  pub note_stretch : take (v.counts.notes * note_size) (drop (notes_at v.counts) (layout v)) ≡ note_area v
  unfolding note_part
  note_stretch = rw (counts_back v) at (note_part_lem v f)

  pub filters_read : {from : ℕ} → from ≡ filters_at v.counts
      → let part = take (from + length v.filters * filter_size - from) (drop from (layout v)) in get_all filter_codec (length part) part ≡ v.filters
  unfolding filter_codec
  filters_read {from} p = used_read filter_reads (omega arith) _ _ f.filter_texts f.filters (layout v) from (rw p filter_stretch)

  pub eqs_read : {from : ℕ} → from ≡ eqs_at v.counts
      → let part = take (from + length v.eqs * eq_size - from) (drop from (layout v)) in get_all eq_codec (length part) part ≡ v.eqs
  unfolding numbered_codec
  eqs_read {from} p = used_read eq_reads (omega arith) _ _ f.eq_texts f.eqs (layout v) from (rw p eq_stretch)

  pub notes_read : {from : ℕ} → from ≡ notes_at v.counts
      → let part = take (from + length v.notes * note_size - from) (drop from (layout v)) in get_all note_codec (length part) part ≡ v.notes
  unfolding numbered_codec
  notes_read {from} p = used_read note_reads (omega arith) _ _ f.note_texts f.notes (layout v) from (rw p note_stretch)

-- ---- what a shape tells of a store

abbrev pub shape_of_lem : View → Shape
shape_of_lem v = record { counts = v.counts; text = length v.text; filters = length v.filters; eqs = length v.eqs; notes = length v.notes }

pub shape_is : {shape : Shape} {v : View} (o : Option View) → shape_of o ≡ Some shape → o ≡ Some v → shape ≡ shape_of_lem v
unfolding shape_of
shape_is {shape} {v} o e h = let k : shape_of (Some v) ≡ Some shape = rw h at e in cc

pub record Seen (o : Option View) (shape : Shape) : Type 0 where
  pub seen : View
  pub is : o ≡ Some seen
  pub shaped : shape ≡ shape_of_lem seen

pub seen_as : (o : Option View) (shape : Shape) → shape_of o ≡ Some shape → Seen o shape
unfolding shape_of
seen_as None shape e = let z : ◌≡◌ {A = ℕ} 0 1 = cc in absurd (omega arith)
seen_as (Some v) shape e = record { seen = v; is = refl; shaped = cc }

-- the store is the layout of a view, and the shape the view's
pub data Shaped : List ℕ → Shape → Type 0 where
  shaped : (v : View) → well_formed v ≡ true → Shaped (layout v) (shape_of_lem v)

pub shaped-seen : {shape : Shape} (s : List ℕ) → Seen (view s) shape → Shaped s shape
shaped-seen s g = rw (g.shaped, ← view-layout s g.seen g.is) (shaped g.seen (view-well_formed s g.seen g.is))

-- what `shape` told
pub shaped_told : {read : Option Shape} {shape : Shape} (s : List ℕ) → read ≡ shape_of (view s) → read ≡ Some shape → Shaped s shape
shaped_told s p q = shaped-seen s (seen_as (view s) _ (sym p ∙ q))

pub malformed_told : {read : Option Shape} (s : List ℕ) → read ≡ shape_of (view s) → read ≡ None → view s ≡ None
unfolding shape_of
malformed_told s p q = at (view s) (sym p ∙ q)
  where
    at : (o : Option View) → shape_of o ≡ None → o ≡ None
    at None e = refl
    at (Some v) e = cc

-- the numbers that a part of a store goes by
pub record Bounds (s : List ℕ) (shape : Shape) : Type 0 where
  pub size : length s ≡ store_length shape.counts
  pub range : InRange shape.counts
  pub text : shape.text ≤ shape.counts.bytes
  pub filters : shape.filters ≤ shape.counts.filters
  pub eqs : shape.eqs ≤ shape.counts.eqs
  pub notes : shape.notes ≤ shape.counts.notes

pub bounds_of : {s : List ℕ} {shape : Shape} → Shaped s shape → Bounds s shape
bounds_of (shaped v e) =
    let f = well_formed-fits v e in
    let counts-fit = (openable_parts _ _ (well_formed_parts v e).head).counts in
    record { size = layout-length v f; range = fit_range v.counts counts-fit; text = f.text; filters = f.filters; eqs = f.eqs; notes = f.notes }

pub bounds_told : {read : Option Shape} {shape : Shape} (s : List ℕ) → read ≡ shape_of (view s) → read ≡ Some shape → Bounds s shape
bounds_told s p q = bounds_of (shaped_told s p q)
