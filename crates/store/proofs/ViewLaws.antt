-- `view` of `specs/View.antt` is the check of `specs/Check.antt`, byte by byte: a store is laid out if and only if it is the layout of the
-- well-formed view that it says. Assumes nothing but that the elements are bytes.
use Prim.Native.Nat.{ℕ, suc, ◌*◌, ◌-◌, ◌≤◌}
use mathlib.Core.Path.{◌≡◌, refl, sym, ap, ◌∙◌}
use mathlib.Core.Bool.{Bool, true, false, ◌&&◌, cond}
use mathlib.Core.List.{List, ◌++◌, append_assoc}
use Rattle.std.specs.Prelude.{None, Some}
use native.Mathlib.Omega.{arith}
use borrow.Author.Tests.{eqb-true, eq-eqb, leb-true, le-leb}
use lib.Dec.{eqb, leb}
use lib.ListN.{length, drop, length-drop}
use lib.Seq.{take_all, length-take-le}
use Rattle.text.specs.Text.{same}
use Rattle.text.proofs.Laws.{both_true, and_split, same_true, same_itself}
use Rattle.table.specs.Bytes.{zeros}
use Rattle.table.proofs.ByteLaws.{zeros_replicate}
use Rattle.table.proofs.JoinLaws.{Bytes, bytes_part}
use Rattle.rule.specs.RuleText.{text_fault}
use Rattle.store.specs.Store.{filter_size, eq_size, note_size, session_limit, counts_fit, store_length, View}
use Rattle.store.specs.Layout.{pad, filter_codec, numbered_codec, eq_codec, note_codec, header, layout, counts, text_used, filters_used, eqs_used, notes_used, filters_at, eqs_at, notes_at, text_part, filter_part, eq_part, note_part, read_layout}
use Rattle.store.specs.View.{faultless, rules, bad_filter, bad_eq, bad_note, well_formed, view}
use Rattle.store.specs.Check.{text_fine, filter_fine, numbered_fine, table_fine, rules_of, laid_out, shape_of}
use Rattle.store.proofs.LayoutLaws.{filter_rows_lem, eq_rows_lem, note_rows_lem, pad-length, pad-take, pad-drop, filter_area, eq_area, note_area, counts_back, text_used_lem, filters_used_lem, eqs_used_lem, notes_used_lem, layout-length, text_part_lem, filter_part_lem, eq_part_lem, note_part_lem, read_layout_lem, well_formed_parts, well_formed_made, openable_parts, openable_made, well_formed-fits}
use Rattle.store.proofs.FineLaws.{pad_again, stretch, u16_at, eq_tested, note_tested, filter_tested, table_fine_lem, Held, table_held}

-- ---- a layout is laid out

text_fine_lem : (width : ℕ) (text : List ℕ) → length text ≤ width → faultless (text_fault text) ≡ true → text_fine (length text) (pad width text) ≡ true
unfolding text_fine
text_fine_lem width text h e =
    rw (
      pad-length width text h,
      le-leb (length text) width h,
      pad-drop width text,
      zeros_replicate (width - length text),
      pad-take width text,
    )
    e

module _ (v : View) (e : well_formed v ≡ true) where
  rules_back : rules_of (layout v) ≡ rules v.text
  unfolding rules_of
  rules_back = rw (text_used_lem v, text_part_lem v (well_formed-fits v e), pad-take v.counts.bytes v.text)

  filters_fine : table_fine filter_size (filter_fine (rules v.text)) (length v.filters) (filter_area v) ≡ true
  unfolding filter_codec
  filters_fine = table_fine_lem filter_rows_lem (filter_tested v.text) _ _ (well_formed_parts v e).filters

  eqs_fine : table_fine eq_size (numbered_fine (rules v.text)) (length v.eqs) (eq_area v) ≡ true
  unfolding numbered_codec
  eqs_fine = table_fine_lem eq_rows_lem (eq_tested v.text) _ _ (well_formed_parts v e).eqs

  notes_fine : table_fine note_size (numbered_fine (suc session_limit)) (length v.notes) (note_area v) ≡ true
  unfolding numbered_codec
  notes_fine = table_fine_lem note_rows_lem note_tested _ _ (well_formed_parts v e).notes

  pub layout-laid_out : laid_out (layout v) ≡ true
  unfolding laid_out
  layout-laid_out =
      let f = well_formed-fits v e in
      let o = openable_parts _ _ (well_formed_parts v e).head in
      rw (
        rules_back,
        counts_back v,
        text_used_lem v,
        filters_used_lem v,
        eqs_used_lem v,
        notes_used_lem v,
        text_part_lem v f,
        filter_part_lem v f,
        eq_part_lem v f,
        note_part_lem v f,
        o.counts,
        eq-eqb _ _ (layout-length v f),
        text_fine_lem v.counts.bytes v.text o.fits o.faultless,
        filters_fine,
        eqs_fine,
      )
      notes_fine

-- ---- what is laid out is a layout

-- the header is what the numbers that it says are written to
header_again : (s : List ℕ) → Bytes s → 16 ≤ length s
    → header (counts s) (text_used s) (filters_used s) (eqs_used s) (notes_used s) ++ drop 16 s ≡ s
unfolding header counts text_used filters_used eqs_used notes_used
header_again s y h =
    simp append_assoc
    (rw (
      u16_at s 0 y (omega arith),
      u16_at s 2 y (omega arith),
      u16_at s 4 y (omega arith),
      u16_at s 6 y (omega arith),
      u16_at s 8 y (omega arith),
      u16_at s 10 y (omega arith),
      u16_at s 12 y (omega arith),
      u16_at s 14 y (omega arith),
      stretch 14 2 s,
      stretch 12 2 s,
      stretch 10 2 s,
      stretch 8 2 s,
      stretch 6 2 s,
      stretch 4 2 s,
      stretch 2 2 s,
    )
    (stretch 0 2 s))

-- the parts of the check
pub record Laid (s : List ℕ) : Type 0 where
  pub fits : counts_fit (counts s) ≡ true
  pub size : length s ≡ store_length (counts s)
  pub text : text_fine (text_used s) (text_part s) ≡ true
  pub filters : table_fine filter_size (filter_fine (rules_of s)) (filters_used s) (filter_part s) ≡ true
  pub eqs : table_fine eq_size (numbered_fine (rules_of s)) (eqs_used s) (eq_part s) ≡ true
  pub notes : table_fine note_size (numbered_fine (suc session_limit)) (notes_used s) (note_part s) ≡ true

pub laid : (s : List ℕ) → laid_out s ≡ true → Laid s
unfolding laid_out
laid s e =
    let a = and_split (counts_fit (counts s)) _ e in
    let b = and_split (eqb (length s) (store_length (counts s))) _ a.1 in
    let c = and_split (text_fine (text_used s) (text_part s)) _ b.1 in
    let d = and_split (table_fine filter_size (filter_fine (rules_of s)) (filters_used s) (filter_part s)) _ c.1 in
    let f = and_split (table_fine eq_size (numbered_fine (rules_of s)) (eqs_used s) (eq_part s)) _ d.1 in
    record { fits = a.0; size = eqb-true _ _ b.0; text = c.0; filters = d.0; eqs = f.0; notes = f.1 }

-- the parts follow one another, from the header on to the end
module _ (s : List ℕ) (size : length s ≡ store_length (counts s)) where
  pub text_length : length (text_part s) ≡ (counts s).bytes
  unfolding text_part store_length
  text_length = length-take-le (counts s).bytes (drop 16 s) (omega (arith, length-drop 16 s))

  pub filter_length : length (filter_part s) ≡ (counts s).filters * filter_size
  unfolding filter_part store_length filters_at
  filter_length = length-take-le _ (drop (filters_at (counts s)) s) (omega (arith, length-drop (filters_at (counts s)) s))

  pub eq_length : length (eq_part s) ≡ (counts s).eqs * eq_size
  unfolding eq_part store_length filters_at eqs_at
  eq_length = length-take-le _ (drop (eqs_at (counts s)) s) (omega (arith, length-drop (eqs_at (counts s)) s))

  pub note_length : length (note_part s) ≡ (counts s).notes * note_size
  unfolding note_part store_length filters_at eqs_at notes_at
  note_length = length-take-le _ (drop (notes_at (counts s)) s) (omega (arith, length-drop (notes_at (counts s)) s))

  parts_again : text_part s ++ (filter_part s ++ (eq_part s ++ note_part s)) ≡ drop 16 s
  unfolding text_part filter_part eq_part note_part store_length filters_at eqs_at notes_at
  parts_again =
      let end = take_all ((counts s).notes * note_size) (drop (notes_at (counts s)) s) (omega (arith, length-drop (notes_at (counts s)) s)) in
      rw (
        end,
        stretch (eqs_at (counts s)) ((counts s).eqs * eq_size) s,
        stretch (filters_at (counts s)) ((counts s).filters * filter_size) s,
      )
      (stretch 16 (counts s).bytes s)

module _ (s : List ℕ) (y : Bytes s) (e : laid_out s ≡ true) where
  checked : Laid s
  checked = laid s e

  -- rule text
  text_parts : (text_used s ≤ length (text_part s)) × (zeros (drop (text_used s) (text_part s)) ≡ true) × (faultless (text_fault (read_layout s).text) ≡ true)
  unfolding text_fine read_layout
  text_parts =
      let a = and_split (leb (text_used s) (length (text_part s))) _ checked.text in
      let b = and_split (zeros (drop (text_used s) (text_part s))) _ a.1 in
      (leb-true _ _ a.0, b.0, b.1)

  text_count : length (read_layout s).text ≡ text_used s
  unfolding read_layout
  text_count = length-take-le (text_used s) (text_part s) text_parts.0

  text_again : pad (counts s).bytes (read_layout s).text ≡ text_part s
  unfolding read_layout
  text_again =
      let whole = text_length s checked.size in
      pad_again (counts s).bytes (text_used s) (text_part s) whole (omega (arith, text_parts.0)) text_parts.1

  -- tables
  filters_held : Held filter_rows_lem filter_codec (bad_filter (read_layout s).text) (counts s).filters (filters_used s) (filter_part s)
  unfolding filter_part read_layout rules_of filter_codec
  filters_held =
      table_held filter_rows_lem (filter_tested (read_layout s).text) (counts s).filters (filters_used s) (filter_part s)
      (omega arith) (filter_length s checked.size) (bytes_part (filters_at (counts s)) ((counts s).filters * filter_size) s y) checked.filters

  eqs_held : Held eq_rows_lem eq_codec (bad_eq (read_layout s).text) (counts s).eqs (eqs_used s) (eq_part s)
  unfolding eq_part read_layout rules_of numbered_codec
  eqs_held =
      table_held eq_rows_lem (eq_tested (read_layout s).text) (counts s).eqs (eqs_used s) (eq_part s)
      (omega arith) (eq_length s checked.size) (bytes_part (eqs_at (counts s)) ((counts s).eqs * eq_size) s y) checked.eqs

  notes_held : Held note_rows_lem note_codec bad_note (counts s).notes (notes_used s) (note_part s)
  unfolding note_part numbered_codec
  notes_held =
      table_held note_rows_lem note_tested (counts s).notes (notes_used s) (note_part s)
      (omega arith) (note_length s checked.size) (bytes_part (notes_at (counts s)) ((counts s).notes * note_size) s y) checked.notes

  pub layout_again : layout (read_layout s) ≡ s
  unfolding layout read_layout store_length
  layout_again =
      rw (
        text_count,
        filters_held.count,
        eqs_held.count,
        notes_held.count,
        text_again,
        filters_held.whole,
        eqs_held.whole,
        notes_held.whole,
        parts_again s checked.size,
      )
      (header_again s y (omega (arith, checked.size)))

  pub read_well_formed : well_formed (read_layout s) ≡ true
  unfolding read_layout
  read_well_formed =
      let room : length (read_layout s).text ≤ (counts s).bytes = omega (arith, text_parts.0, text_length s checked.size, text_count) in
      let head = openable_made (counts s) (read_layout s).text (record { counts = checked.fits; fits = room; faultless = text_parts.2 }) in
      well_formed_made (read_layout s) (record { head = head; filters = filters_held.sound; eqs = eqs_held.sound; notes = notes_held.sound })

-- ---- `view` is the check

pub view_laid_out : (s : List ℕ) → Bytes s → (well_formed (read_layout s) && same (layout (read_layout s)) s) ≡ laid_out s
view_laid_out s y =
    both_true _ (laid_out s)
    (λ e.
    let a = and_split (well_formed (read_layout s)) _ e in
    ap laid_out (sym (same_true _ s a.1)) ∙ layout-laid_out (read_layout s) a.0)
    (λ e. rw (read_well_formed s y e, layout_again s y e) (same_itself s))

-- what a store means, and that it means nothing
pub view_read : (s : List ℕ) → Bytes s → laid_out s ≡ true → view s ≡ Some (read_layout s)
unfolding view
view_read s y e = rw (view_laid_out s y, e)

pub view-none : (s : List ℕ) → Bytes s → laid_out s ≡ false → view s ≡ None
unfolding view
view-none s y e = rw (view_laid_out s y, e)

pub shape_laid_out : (s : List ℕ) → Bytes s → laid_out s ≡ true
    → shape_of (view s) ≡ Some (record { counts = counts s; text = text_used s; filters = filters_used s; eqs = eqs_used s; notes = notes_used s })
unfolding shape_of read_layout
shape_laid_out s y e =
    rw (view_read s y e, text_count s y e, (filters_held s y e).count, (eqs_held s y e).count, (notes_held s y e).count)

pub shape_malformed : (s : List ℕ) → Bytes s → laid_out s ≡ false → shape_of (view s) ≡ None
unfolding shape_of
shape_malformed s y e = rw (view-none s y e)

-- what is read is well-formed, and is laid out as it was
view_reads : (s : List ℕ) (v : View) → view s ≡ Some v → (well_formed v ≡ true) × (layout v ≡ s)
unfolding view
view_reads s v = at (well_formed (read_layout s) && same (layout (read_layout s)) s) refl
  where
    at : (b : Bool) → (well_formed (read_layout s) && same (layout (read_layout s)) s) ≡ b → cond b (Some (read_layout s)) None ≡ Some v
        → (well_formed v ≡ true) × (layout v ≡ s)
    at true e h =
        let r : read_layout s ≡ v = cc in
        let a = and_split (well_formed (read_layout s)) _ e in
        let both : (well_formed (read_layout s) ≡ true) × (layout (read_layout s) ≡ s) = (a.0, same_true _ _ a.1) in
        rw r at both
    at false e h = let z : ◌≡◌ {A = ℕ} 0 1 = cc in absurd (omega arith)

pub view-well_formed : (s : List ℕ) (v : View) → view s ≡ Some v → well_formed v ≡ true
view-well_formed s v h = (view_reads s v h).0

pub view-layout : (s : List ℕ) (v : View) → view s ≡ Some v → layout v ≡ s
view-layout s v h = (view_reads s v h).1

pub view_of_layout : (v : View) → well_formed v ≡ true → view (layout v) ≡ Some v
unfolding view
view_of_layout v e = rw (read_layout_lem v (well_formed-fits v e), e, same_itself (layout v))
