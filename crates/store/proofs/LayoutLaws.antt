-- Laws of `specs/Layout.antt`: what is laid out reads back, part by part, and how many bytes it has. Assumes nothing.
use Prim.Native.Nat.{ℕ, ◌+◌, ◌*◌, ◌-◌, ◌≤◌}
use mathlib.Core.Path.{◌≡◌, refl, ◌∙◌}
use mathlib.Core.Bool.{Bool, true, false, ◌&&◌, ◌||◌}
use mathlib.Core.List.Memᴰ
use mathlib.Core.List.{List, [], ◌∷◌, ◌++◌, map}
use native.Mathlib.Nat.{div-add-mod', mul-le-mul_right}
use native.Mathlib.Omega.{arith}
use borrow.Author.Tests.{eqb-true, eq-eqb, ltb-false, leb-true, le-leb}
use lib.Dec.{eqb, leb, ltb}
use lib.ListN.{length, take, drop, replicate, length-append, length-replicate, length-map}
use lib.Seq.{take-append_seam, take_at, drop_at, drop-drop, take_all}
use Rattle.text.proofs.Laws.{and_split, or_split}
use Rattle.table.specs.Table.{some_row}
use Rattle.table.specs.Bytes.{u16, number, rows}
use Rattle.table.proofs.TableLaws.{Equals, texts, Sound, sound_parts, sound_made, none_at, none_of}
use Rattle.table.proofs.JoinLaws.{Sized, joined_length, joined_rows}
use Rattle.rule.specs.Limits.{text_limit, id_limit}
use Rattle.rule.specs.RuleText.{text_fault}
use Rattle.store.specs.declared.Counts.{Counts}
use Rattle.store.specs.Store.{session_limit, over, filter_size, eq_size, note_size, counts_fit, store_length, FilterRow, EqRow, NoteRow, View, ownerless, same_filter, same_eq, same_note}
use Rattle.store.specs.Layout.{pad, Codec, field, filter_text, filter_owner, filter_codec, numbered_text, numbered_codec, eq_codec, note_codec, put_all, get_all, area, header, layout, counts, text_used, filters_used, eqs_used, notes_used, filters_at, eqs_at, notes_at, text_part, filter_part, eq_part, note_part, read_layout, outside_rows}
use Rattle.store.specs.View.{faultless, openable, rules, bad_eq, bad_filter, bad_note, well_formed}

-- ---- the tests of rows are equality

numbers : Equals eqb
numbers = record { agree = eqb-true; itself = λ n. eq-eqb n n refl }

-- equality by two parts
both : {Row A C : Type 0} {s : A → A → Bool} {t : C → C → Bool} (f : Row → A) (g : Row → C)
    → Equals s → Equals t → ((a b : Row) → f a ≡ f b → g a ≡ g b → a ≡ b) → Equals (λ a b. s (f a) (f b) && t (g a) (g b))
both f g S T make =
    record {
      agree = λ a b e. let p = and_split _ _ e in make a b (S.agree _ _ p.0) (T.agree _ _ p.1);
      itself = λ a. rw (S.itself (f a)) (T.itself (g a));
    }

pub eq_rows_lem : Equals same_eq
unfolding same_eq
eq_rows_lem = both (λ r. r.rule) (λ r. r.text) numbers texts (λ a b p q i. record { rule = p i; text = q i })

pub filter_rows_lem : Equals same_filter
unfolding same_filter
filter_rows_lem = both ownerless (λ r. r.owner) eq_rows_lem texts (λ a b p q i. record { rule = (p i).rule; text = (p i).text; owner = q i })

pub note_rows_lem : Equals same_note
unfolding same_note
note_rows_lem = both (λ r. r.session) (λ r. r.text) numbers texts (λ a b p q i. record { session = p i; text = q i })

-- ---- padding

pub pad-length : (width : ℕ) (text : List ℕ) → length text ≤ width → length (pad width text) ≡ width
unfolding pad
pad-length width text h = simp (length-append, length-replicate) (omega arith)

pub pad-take : (width : ℕ) (text : List ℕ) → take (length text) (pad width text) ≡ text
unfolding pad
pad-take width text = take-append_seam text _

pub pad-drop : (width : ℕ) (text : List ℕ) → drop (length text) (pad width text) ≡ replicate (width - length text) 0
unfolding pad
pad-drop width text = drop_at text _ _ refl

-- a padded field reads back
pub padded_back : (width : ℕ) (text : List ℕ) → length text ≤ width → take (length text) (take width (pad width text)) ≡ text
padded_back width text h = rw (take_all width (pad width text) (omega (arith, pad-length width text h))) (pad-take width text)

-- ---- rows

-- a codec's rows have its size and read back, unless they are bad
pub record Reads {Row : Type 0} (c : Codec Row) (bad : Row → Bool) : Type 0 where
  pub sized : (r : Row) → bad r ≡ false → length (c.put r) ≡ c.size
  pub back : (r : Row) → bad r ≡ false → c.get (c.put r) ≡ r

pub numbered_reads :
    {Row : Type 0} (key : Row → ℕ) (text : Row → List ℕ) (make : ℕ → List ℕ → Row) →
    ((r : Row) → make (key r) (text r) ≡ r) →
    Reads (numbered_codec key text make) (λ r. over text_limit (text r))
unfolding numbered_codec numbered_text field u16 number
numbered_reads key text make whole =
    record {
      sized = λ r h. rw (pad-length text_limit (text r) (ltb-false _ _ h));
      back = λ r h.
          rw (div-add-mod' (key r) 256, div-add-mod' (length (text r)) 256, padded_back text_limit (text r) (ltb-false _ _ h)) (whole r);
    }

-- rows with a text that is too long
abbrev pub long_eq : EqRow → Bool
long_eq r = over text_limit r.text

abbrev pub long_note : NoteRow → Bool
long_note r = over text_limit r.text

abbrev pub long_filter : FilterRow → Bool
long_filter r = over text_limit r.text || over id_limit r.owner

pub eq_reads : Reads eq_codec long_eq
eq_reads = numbered_reads _ _ _ (λ r. refl)

pub note_reads : Reads note_codec long_note
note_reads = numbered_reads _ _ _ (λ r. refl)

pub filter_reads : Reads filter_codec long_filter
unfolding filter_codec filter_text filter_owner field u16 number
filter_reads =
    record {
      sized = λ r h.
          let s = or_split (over text_limit r.text) _ h in
          rw (length-append (pad text_limit r.text), pad-length text_limit r.text (ltb-false _ _ s.0), pad-length id_limit r.owner (ltb-false _ _ s.1));
      back = λ r h.
          let s = or_split (over text_limit r.text) _ h in
          let there = pad-length text_limit r.text (ltb-false _ _ s.0) in
          let whole = take_all id_limit (pad id_limit r.owner) (omega (arith, pad-length id_limit r.owner (ltb-false _ _ s.1))) in
          rw (
            div-add-mod' r.rule 256,
            div-add-mod' (length r.text) 256,
            div-add-mod' (length r.owner) 256,
            take_at (pad text_limit r.text) (pad id_limit r.owner) text_limit there,
            drop_at (pad text_limit r.text) (pad id_limit r.owner) text_limit there,
            whole,
            pad-take text_limit r.text,
            pad-take id_limit r.owner,
          );
    }

-- tables read back, whatever a row is
module _ {Row : Type 0} {c : Codec Row} {bad : Row → Bool} (R : Reads c bad) where
  put_sized : (rs : List Row) → some_row bad rs ≡ false → Sized c.size (map c.put rs)
  put_sized rs e b m =
      let r = Memᴰ.of_map c.put rs m in
      rw (← r.2) (R.sized r.0 (none_at bad e r.1))

  get_put : (rs : List Row) → some_row bad rs ≡ false → map c.get (map c.put rs) ≡ rs
  unfolding some_row
  get_put [] e = refl
  get_put (r ∷ rs) e =
      let s = or_split (bad r) _ e in
      rw (R.back r s.0, get_put rs s.1)

  pub put_all-length : (rs : List Row) → some_row bad rs ≡ false → length (put_all c rs) ≡ length rs * c.size
  unfolding put_all
  put_all-length rs e = joined_length c.size (map c.put rs) (put_sized rs e) ∙ rw (length-map rs c.put)

  pub area-length : (room : ℕ) (rs : List Row) → some_row bad rs ≡ false → length rs ≤ room → length (area c room rs) ≡ room * c.size
  unfolding area
  area-length room rs e h = pad-length _ _ (omega (arith, put_all-length rs e, mul-le-mul_right c.size h))

  pub area-rows : (room : ℕ) (rs : List Row) → some_row bad rs ≡ false → rows c.size (length rs) (area c room rs) ≡ map c.put rs
  unfolding area pad put_all
  area-rows room rs e = rw (← length-map rs c.put) (joined_rows c.size (map c.put rs) _ (put_sized rs e))

  pub area_back : (room : ℕ) (rs : List Row) → some_row bad rs ≡ false → get_all c (length rs) (area c room rs) ≡ rs
  unfolding get_all
  area_back room rs e = rw (area-rows room rs e) (get_put rs e)

  pub area_unused :
      (room : ℕ) (rs : List Row) → some_row bad rs ≡ false →
      drop (length rs * c.size) (area c room rs) ≡ replicate (room * c.size - length rs * c.size) 0
  unfolding area
  area_unused room rs e = rw (← put_all-length rs e) (pad-drop (room * c.size) (put_all c rs))

-- ---- the whole

-- what a view needs for its layout to read back
pub record Fits (v : View) : Type 0 where
  pub text : length v.text ≤ v.counts.bytes
  pub filters : length v.filters ≤ v.counts.filters
  pub eqs : length v.eqs ≤ v.counts.eqs
  pub notes : length v.notes ≤ v.counts.notes
  pub filter_texts : some_row long_filter v.filters ≡ false
  pub eq_texts : some_row long_eq v.eqs ≡ false
  pub note_texts : some_row long_note v.notes ≡ false

-- the header and the rule text; the bytes outside the used rows: counts, rule text and how many rows are used decide them
unfoldable pub top : Counts → List ℕ → ℕ → ℕ → ℕ → List ℕ
top c text filters eqs notes = header c (length text) filters eqs notes ++ pad c.bytes text

unfoldable pub frame : Counts → List ℕ → ℕ → ℕ → ℕ → List ℕ
frame c text filters eqs notes =
    top c text filters eqs notes
    ++ (replicate (c.filters * filter_size - filters * filter_size) 0
    ++ (replicate (c.eqs * eq_size - eqs * eq_size) 0 ++ replicate (c.notes * note_size - notes * note_size) 0))

-- the stretches of a layout
abbrev pub filter_area : View → List ℕ
filter_area v = area filter_codec v.counts.filters v.filters

abbrev pub eq_area : View → List ℕ
eq_area v = area eq_codec v.counts.eqs v.eqs

abbrev pub note_area : View → List ℕ
note_area v = area note_codec v.counts.notes v.notes

abbrev top_of : View → List ℕ
top_of v = top v.counts v.text (length v.filters) (length v.eqs) (length v.notes)

-- the numbers of the header
pub counts_back : (v : View) → counts (layout v) ≡ v.counts
unfolding counts layout header u16 number
counts_back v =
    rw (div-add-mod' v.counts.bytes 256, div-add-mod' v.counts.filters 256, div-add-mod' v.counts.eqs 256, div-add-mod' v.counts.notes 256)

pub text_used_lem : (v : View) → text_used (layout v) ≡ length v.text
unfolding text_used layout header u16 number
text_used_lem v = div-add-mod' (length v.text) 256

pub filters_used_lem : (v : View) → filters_used (layout v) ≡ length v.filters
unfolding filters_used layout header u16 number
filters_used_lem v = div-add-mod' (length v.filters) 256

pub eqs_used_lem : (v : View) → eqs_used (layout v) ≡ length v.eqs
unfolding eqs_used layout header u16 number
eqs_used_lem v = div-add-mod' (length v.eqs) 256

pub notes_used_lem : (v : View) → notes_used (layout v) ≡ length v.notes
unfolding notes_used layout header u16 number
notes_used_lem v = div-add-mod' (length v.notes) 256

module _ (v : View) (f : Fits v) where
  text_length : length (pad v.counts.bytes v.text) ≡ v.counts.bytes
  text_length = pad-length v.counts.bytes v.text f.text

  filters_length : length (filter_area v) ≡ v.counts.filters * filter_size
  unfolding filter_codec
  filters_length = area-length filter_reads _ _ f.filter_texts f.filters

  eqs_length : length (eq_area v) ≡ v.counts.eqs * eq_size
  unfolding numbered_codec
  eqs_length = area-length eq_reads _ _ f.eq_texts f.eqs

  notes_length : length (note_area v) ≡ v.counts.notes * note_size
  unfolding numbered_codec
  notes_length = area-length note_reads _ _ f.note_texts f.notes

  -- "The length of a store follows from its four counts: 16 + R + 326F + 260E + 260N"
  pub layout-length : length (layout v) ≡ store_length v.counts
  unfolding layout header u16 store_length
  layout-length = simp length-append (omega (arith, text_length, filters_length, eqs_length, notes_length))

  -- where its stretches begin
  layout_top : layout v ≡ top_of v ++ (filter_area v ++ (eq_area v ++ note_area v))
  unfolding layout top header u16
  layout_top = refl

  top_length : length (top_of v) ≡ filters_at v.counts
  unfolding top header u16 filters_at
  top_length = omega (arith, text_length)

  from_filters : drop (filters_at v.counts) (layout v) ≡ filter_area v ++ (eq_area v ++ note_area v)
  from_filters = rw layout_top (drop_at (top_of v) _ _ top_length)

  pub from_eqs : drop (eqs_at v.counts) (layout v) ≡ eq_area v ++ note_area v
  unfolding eqs_at
  from_eqs = rw (← drop-drop (v.counts.filters * filter_size) (filters_at v.counts) (layout v), from_filters) (drop_at (filter_area v) _ _ filters_length)

  pub from_notes : drop (notes_at v.counts) (layout v) ≡ note_area v
  unfolding notes_at
  from_notes = rw (← drop-drop (v.counts.eqs * eq_size) (eqs_at v.counts) (layout v), from_eqs) (drop_at (eq_area v) _ _ eqs_length)

  -- its parts
  pub text_part_lem : text_part (layout v) ≡ pad v.counts.bytes v.text
  unfolding text_part
  text_part_lem = rw (counts_back v) (unfold layout header u16 in take_at (pad v.counts.bytes v.text) _ _ text_length)

  pub filter_part_lem : filter_part (layout v) ≡ filter_area v
  unfolding filter_part
  filter_part_lem = rw (counts_back v, from_filters) (take_at (filter_area v) _ _ filters_length)

  pub eq_part_lem : eq_part (layout v) ≡ eq_area v
  unfolding eq_part
  eq_part_lem = rw (counts_back v, from_eqs) (take_at (eq_area v) _ _ eqs_length)

  pub note_part_lem : note_part (layout v) ≡ note_area v
  unfolding note_part
  note_part_lem = rw (counts_back v, from_notes) (take_all (v.counts.notes * note_size) (note_area v) (omega (arith, notes_length)))

  -- what it says
  text_back : take (text_used (layout v)) (text_part (layout v)) ≡ v.text
  text_back = rw (text_used_lem v, text_part_lem) (pad-take v.counts.bytes v.text)

  filters_back : get_all filter_codec (filters_used (layout v)) (filter_part (layout v)) ≡ v.filters
  filters_back = rw (filters_used_lem v, filter_part_lem) (area_back filter_reads _ _ f.filter_texts)

  eqs_back : get_all eq_codec (eqs_used (layout v)) (eq_part (layout v)) ≡ v.eqs
  eqs_back = rw (eqs_used_lem v, eq_part_lem) (area_back eq_reads _ _ f.eq_texts)

  notes_back : get_all note_codec (notes_used (layout v)) (note_part (layout v)) ≡ v.notes
  notes_back = rw (notes_used_lem v, note_part_lem) (area_back note_reads _ _ f.note_texts)

  pub read_layout_lem : read_layout (layout v) ≡ v
  unfolding read_layout
  read_layout_lem = λ i. record { counts = counts_back v i; text = text_back i; filters = filters_back i; eqs = eqs_back i; notes = notes_back i }

  -- "all other bytes"
  front : take (16 + v.counts.bytes) (layout v) ≡ top_of v
  unfolding filters_at
  front = rw layout_top (take_at (top_of v) _ _ top_length)

  filters_unused : drop (length v.filters * filter_size) (filter_area v) ≡ replicate (v.counts.filters * filter_size - length v.filters * filter_size) 0
  unfolding filter_codec
  filters_unused = area_unused filter_reads _ _ f.filter_texts

  eqs_unused : drop (length v.eqs * eq_size) (eq_area v) ≡ replicate (v.counts.eqs * eq_size - length v.eqs * eq_size) 0
  unfolding numbered_codec
  eqs_unused = area_unused eq_reads _ _ f.eq_texts

  notes_unused : drop (length v.notes * note_size) (note_area v) ≡ replicate (v.counts.notes * note_size - length v.notes * note_size) 0
  unfolding numbered_codec
  notes_unused = area_unused note_reads _ _ f.note_texts

  pub outside_layout : outside_rows (layout v) ≡ frame v.counts v.text (length v.filters) (length v.eqs) (length v.notes)
  unfolding outside_rows frame
  outside_layout =
      rw (counts_back v, filters_used_lem v, eqs_used_lem v, notes_used_lem v, filter_part_lem, eq_part_lem, note_part_lem, front, filters_unused, eqs_unused, notes_unused)

-- ---- well-formed views

-- `well_formed`, by its parts
pub record WellFormed (v : View) : Type 0 where
  pub head : openable v.counts v.text ≡ true
  pub filters : Sound filter_rows_lem (bad_filter v.text) v.counts.filters v.filters
  pub eqs : Sound eq_rows_lem (bad_eq v.text) v.counts.eqs v.eqs
  pub notes : Sound note_rows_lem bad_note v.counts.notes v.notes

pub well_formed_parts : (v : View) → well_formed v ≡ true → WellFormed v
unfolding well_formed
well_formed_parts v e =
    let a = and_split (openable v.counts v.text) _ e in
    let b = and_split _ _ a.1 in
    let c = and_split _ _ b.1 in
    record { head = a.0; filters = sound_parts filter_rows_lem b.0; eqs = sound_parts eq_rows_lem c.0; notes = sound_parts note_rows_lem c.1 }

pub well_formed_made : (v : View) → WellFormed v → well_formed v ≡ true
unfolding well_formed
well_formed_made v w = rw (w.head, sound_made filter_rows_lem w.filters, sound_made eq_rows_lem w.eqs) (sound_made note_rows_lem w.notes)

pub record Openable (c : Counts) (text : List ℕ) : Type 0 where
  pub counts : counts_fit c ≡ true
  pub fits : length text ≤ c.bytes
  pub faultless : faultless (text_fault text) ≡ true

pub openable_parts : (c : Counts) (text : List ℕ) → openable c text ≡ true → Openable c text
unfolding openable
openable_parts c text e =
    let a = and_split (counts_fit c) _ e in
    let b = and_split (leb (length text) c.bytes) _ a.1 in
    record { counts = a.0; fits = leb-true _ _ b.0; faultless = b.1 }

pub openable_made : (c : Counts) (text : List ℕ) → Openable c text → openable c text ≡ true
unfolding openable
openable_made c text o = rw (o.counts, le-leb (length text) c.bytes o.fits) o.faultless

-- rows that are not bad are not too long
pub good_eq : (text : List ℕ) (r : EqRow) → bad_eq text r ≡ false → long_eq r ≡ false
unfolding bad_eq
good_eq text r e = (or_split (leb (rules text) r.rule) _ e).1

pub good_filter : (text : List ℕ) (r : FilterRow) → bad_filter text r ≡ false → long_filter r ≡ false
unfolding bad_filter
good_filter text r e =
    let s = or_split (bad_eq text (ownerless r)) _ e in
    rw (good_eq text (ownerless r) s.0, (or_split (over id_limit r.owner) _ s.1).0)

pub good_note : (r : NoteRow) → bad_note r ≡ false → long_note r ≡ false
unfolding bad_note
good_note r e = (or_split (ltb session_limit r.session) _ e).1

pub well_formed-fits : (v : View) → well_formed v ≡ true → Fits v
well_formed-fits v e =
    let w = well_formed_parts v e in
    record {
      text = (openable_parts _ _ w.head).fits;
      filters = w.filters.fits;
      eqs = w.eqs.fits;
      notes = w.notes.fits;
      filter_texts = none_of v.filters (good_filter v.text) w.filters.good;
      eq_texts = none_of v.eqs (good_eq v.text) w.eqs.good;
      note_texts = none_of v.notes good_note w.notes.good;
    }
