-- Rows and tables by the byte tests of `specs/Check.antt`: a table of rows that are not bad is written to fine bytes, and fine bytes are what
-- the rows that they say are written to. Stated once for a table, and for each kind of row. Assumes nothing.
use Prim.Native.Nat.{ℕ, suc, ◌+◌, ◌*◌, ◌-◌, ◌≤◌, ◌<◌}
use mathlib.Core.Path.{◌≡◌, refl, ◌∙◌}
use mathlib.Core.Bool.{Bool, true, false, ◌||◌, not}
use mathlib.Core.List.{List, [], ◌∷◌, ◌++◌, map, Memᴰ}
use native.Mathlib.Nat.{div-add-mod', mul-le-mul_right, le_of_mul-le-mul_right}
use native.Mathlib.Omega.{arith}
use borrow.Author.Tests.{leb-true, leb-false, le-leb, lt-leb, ltb-true, ltb-false, lt-ltb, le-ltb, not-true, not-false}
use lib.Dec.{leb, ltb}
use lib.ListN.{length, take, drop, length-take, length-drop, length-map, take-append-drop}
use lib.Seq.{take_at, drop_at, drop-drop, take_all, length-take-le}
use Rattle.text.specs.Text.{same}
use Rattle.text.proofs.Laws.{and_split, or_split}
use Rattle.table.specs.Table.{some_row, distinct}
use Rattle.table.specs.Bytes.{u16, number, zeros, rows}
use Rattle.table.proofs.TableLaws.{Equals, texts, Sound, some_map, none as none_rows, none_at, distinct-map}
use Rattle.table.proofs.ByteLaws.{zeros_true, zeros_replicate}
use Rattle.table.proofs.JoinLaws.{Bytes, bytes_drop, rows_count, rows_joined, row_sized, row_bytes, u16_number}
use Rattle.topic.specs.Topic.{valid_filter}
use Rattle.rule.specs.Limits.{text_limit, id_limit}
use Rattle.store.specs.Store.{session_limit, over, FilterRow, ownerless}
use Rattle.store.specs.Layout.{pad, Codec, field, filter_text, filter_owner, filter_codec, numbered_text, numbered_codec, eq_codec, note_codec, put_all, get_all, area}
use Rattle.store.specs.View.{rules, bad_eq, bad_filter, bad_note}
use Rattle.store.specs.Check.{padded, filter_fine, numbered_fine, table_fine}
use Rattle.store.proofs.LayoutLaws.{Reads, numbered_reads, filter_reads, good_filter, pad-length, pad-take, pad-drop, area-length, area-rows, area_unused}

-- bytes of which all behind the first `n` are zero are these, padded
pub pad_again : (width n : ℕ) (part : List ℕ) → length part ≡ width → n ≤ width → zeros (drop n part) ≡ true → pad width (take n part) ≡ part
unfolding pad
pad_again width n part l h z =
    let count = length-take-le n part (omega arith) in
    let left : width - n ≡ length (drop n part) = omega (arith, length-drop n part) in
    rw (count, left, ← zeros_true (drop n part) z) (take-append-drop n part)

-- a stretch and what follows it
pub stretch : (m n : ℕ) (s : List ℕ) → take n (drop m s) ++ drop (m + n) s ≡ drop m s
stretch m n s = rw (← drop-drop n m s) (take-append-drop n (drop m s))

-- a row's bytes are fine if and only if what they say is not bad, and then they are what it is written to
pub record Tested {Row : Type 0} (c : Codec Row) (bad : Row → Bool) (fine : List ℕ → Bool) : Type 0 where
  pub reads : Reads c bad
  pub written : (r : Row) → bad r ≡ false → fine (c.put r) ≡ true
  pub again : (b : List ℕ) → length b ≡ c.size → Bytes b → fine b ≡ true → c.put (c.get b) ≡ b
  pub good : (b : List ℕ) → fine b ≡ true → bad (c.get b) ≡ false

-- a table of bytes has so many rows, they are sound, and it is what they are written to
pub record Held {Row : Type 0} {same_row : Row → Row → Bool} (E : Equals same_row) (c : Codec Row) (bad : Row → Bool) (room used : ℕ)
    (part : List ℕ) : Type 0 where
  pub count : length (get_all c used part) ≡ used
  pub sound : Sound E bad room (get_all c used part)
  pub whole : area c room (get_all c used part) ≡ part

module _ {Row : Type 0} {same_row : Row → Row → Bool} {c : Codec Row} {bad : Row → Bool} {fine : List ℕ → Bool}
    (E : Equals same_row) (T : Tested c bad fine) where
  -- sound rows are written to a fine table
  pub table_fine_lem : (room : ℕ) (rs : List Row) → Sound E bad room rs → table_fine c.size fine (length rs) (area c room rs) ≡ true
  unfolding table_fine
  table_fine_lem room rs s =
      let there : length rs * c.size ≤ length (area c room rs) =
      omega (arith, area-length T.reads room rs s.good s.fits, mul-le-mul_right c.size s.fits) in
      let fines : some_row (λ r. not (fine (c.put r))) rs ≡ false = none_rows rs (λ r m. rw (T.written r (none_at bad s.good m))) in
      let unequal = distinct-map E texts c.put c.get rs (λ r m. T.reads.back r (none_at bad s.good m)) in
      rw (
        le-leb _ _ there,
        area-rows T.reads room rs s.good,
        some_map (λ b. not (fine b)) c.put rs,
        fines,
        area_unused T.reads room rs s.good,
        zeros_replicate (room * c.size - length rs * c.size),
        unequal,
      )
      s.unequal

  -- the parts of the test
  record Fine (used : ℕ) (part : List ℕ) : Type 0 where
    there : used * c.size ≤ length part
    fines : (b : List ℕ) → Memᴰ b (rows c.size used part) → fine b ≡ true
    rest : zeros (drop (used * c.size) part) ≡ true
    unequal : distinct same (rows c.size used part) ≡ true

  fine_parts : (used : ℕ) (part : List ℕ) → table_fine c.size fine used part ≡ true → Fine used part
  unfolding table_fine
  fine_parts used part e =
      let a = and_split (leb (used * c.size) (length part)) _ e in
      let b = and_split (not (some_row (λ r. not (fine r)) (rows c.size used part))) _ a.1 in
      let d = and_split (zeros (drop (used * c.size) part)) _ b.1 in
      record {
        there = leb-true _ _ a.0;
        fines = λ r m. not-false (fine r) (none_at (λ t. not (fine t)) (not-true _ b.0) m);
        rest = d.0;
        unequal = d.1;
      }

  put_get : (rs : List (List ℕ)) → ((b : List ℕ) → Memᴰ b rs → c.put (c.get b) ≡ b) → map c.put (map c.get rs) ≡ rs
  put_get [] h = refl
  put_get (b ∷ rs) h = rw (h b (Memᴰ.head refl), put_get rs (λ t m. h t (Memᴰ.tail m)))

  module _ (room used : ℕ) (part : List ℕ) (some : 0 < c.size) (whole : length part ≡ room * c.size) (bytes : Bytes part)
      (e : table_fine c.size fine used part ≡ true) where
    table_count : length (get_all c used part) ≡ used
    unfolding get_all
    table_count = length-map (rows c.size used part) c.get ∙ rows_count c.size used part (fine_parts used part e).there

    row_again : (b : List ℕ) → Memᴰ b (rows c.size used part) → c.put (c.get b) ≡ b
    row_again b m = T.again b (row_sized c.size used part b m) (row_bytes c.size used part b bytes m) ((fine_parts used part e).fines b m)

    table_sound : Sound E bad room (get_all c used part)
    unfolding get_all
    table_sound =
        let f = fine_parts used part e in
        record {
          fits = rw table_count (le_of_mul-le-mul_right {k = c.size} (omega arith) some);
          good = rw (some_map bad c.get (rows c.size used part)) (none_rows _ (λ b m. T.good b (f.fines b m)));
          unequal = rw (distinct-map texts E c.get c.put (rows c.size used part) row_again) f.unequal;
        }

    table_area : area c room (get_all c used part) ≡ part
    unfolding area put_all get_all
    table_area =
        let f = fine_parts used part e in
        rw (put_get (rows c.size used part) row_again, rows_joined c.size used part f.there)
        (pad_again (room * c.size) (used * c.size) part whole (omega arith) f.rest)

    pub table_held : Held E c bad room used part
    table_held = record { count = table_count; sound = table_sound; whole = table_area }

-- ---- the kinds of rows

reads_of : {Row : Type 0} {c : Codec Row} {bad long : Row → Bool} → Reads c long → ((r : Row) → bad r ≡ false → long r ≡ false) → Reads c bad
reads_of R h = record { sized = λ r e. R.sized r (h r e); back = λ r e. R.back r (h r e) }

-- two bytes of a row or a store are what the number that they say is written to
pub u16_at : (s : List ℕ) (k : ℕ) → Bytes s → k + 2 ≤ length s → u16 (number (drop k s)) ≡ take 2 (drop k s)
u16_at s k h l = u16_number (drop k s) (omega (arith, length-drop k s)) (bytes_drop k s h 0)

-- a field that is padded, and the text that it says
field_short : (at width n : ℕ) (row : List ℕ) → over width (field at width n row) ≡ false
unfolding field
field_short at width n row = le-ltb width (length (take n (take width (drop at row)))) (omega (arith, length-take n (take width (drop at row)), length-take width (drop at row)))

record Again (at width n : ℕ) (row : List ℕ) : Type 0 where
  count : length (field at width n row) ≡ n
  field : pad width (field at width n row) ≡ take width (drop at row)

field_again : (at width n : ℕ) (row : List ℕ) → at + width ≤ length row → padded at width n row ≡ true → Again at width n row
unfolding field padded
field_again at width n row h e =
    let a = and_split (leb n width) _ e in
    let short = leb-true n width a.0 in
    let whole = length-take-le width (drop at row) (omega (arith, length-drop at row)) in
    record {
      count = length-take-le n (take width (drop at row)) (omega arith);
      field = pad_again width n (take width (drop at row)) whole short a.1;
    }

-- a written field is padded
padded_written : (width : ℕ) (text : List ℕ) → length text ≤ width → zeros (drop (length text) (take width (pad width text))) ≡ true
padded_written width text h =
    rw (take_all width (pad width text) (omega (arith, pad-length width text h)), pad-drop width text) (zeros_replicate (width - length text))

module _ {Row : Type 0} (key : Row → ℕ) (text : Row → List ℕ) (make : ℕ → List ℕ → Row) (bound : ℕ) where
  bad_numbered : Row → Bool
  bad_numbered r = leb bound (key r) || over text_limit (text r)

  abbrev numbered : Codec Row
  numbered = numbered_codec key text make

  numbered_written : (r : Row) → bad_numbered r ≡ false → numbered_fine bound (numbered.put r) ≡ true
  unfolding bad_numbered numbered_fine numbered_codec padded u16 number
  numbered_written r e =
      let h = or_split (leb bound (key r)) _ e in
      let short = ltb-false text_limit (length (text r)) h.1 in
      rw (
        div-add-mod' (key r) 256,
        div-add-mod' (length (text r)) 256,
        lt-ltb (key r) bound (leb-false _ _ h.0),
        le-leb (length (text r)) text_limit short,
      )
      (padded_written text_limit (text r) short)

  module _
      (whole : (r : Row) → make (key r) (text r) ≡ r)
      (key_of : (n : ℕ) (t : List ℕ) → key (make n t) ≡ n)
      (text_of : (n : ℕ) (t : List ℕ) → text (make n t) ≡ t) where
    numbered_again : (b : List ℕ) → length b ≡ 260 → Bytes b → numbered_fine bound b ≡ true → numbered.put (numbered.get b) ≡ b
    unfolding numbered_fine numbered_codec numbered_text
    numbered_again b l y e =
        let h = and_split (ltb (number b) bound) _ e in
        let f = field_again 4 text_limit (number (drop 2 b)) b (omega arith) h.1 in
        let end = take_all text_limit (drop 4 b) (omega (arith, length-drop 4 b)) in
        rw (
          key_of (number b) (numbered_text b),
          text_of (number b) (numbered_text b),
          f.count,
          f.field,
          u16_at b 0 y (omega arith),
          u16_at b 2 y (omega arith),
          end,
          stretch 2 2 b,
        )
        (stretch 0 2 b)

    numbered_good : (b : List ℕ) → numbered_fine bound b ≡ true → bad_numbered (numbered.get b) ≡ false
    unfolding bad_numbered numbered_fine numbered_codec numbered_text
    numbered_good b e =
        let h = and_split (ltb (number b) bound) _ e in
        rw (key_of (number b) (numbered_text b), text_of (number b) (numbered_text b), lt-leb bound (number b) (ltb-true _ _ h.0))
        (field_short 4 text_limit (number (drop 2 b)) b)

    numbered-tested : Tested numbered bad_numbered (numbered_fine bound)
    unfolding bad_numbered numbered_codec
    numbered-tested =
        record {
          reads = reads_of (numbered_reads key text make whole) (λ r e. (or_split (leb bound (key r)) _ e).1);
          written = numbered_written;
          again = numbered_again;
          good = numbered_good;
        }

pub eq_tested : (text : List ℕ) → Tested eq_codec (bad_eq text) (numbered_fine (rules text))
unfolding bad_eq bad_numbered
eq_tested text = numbered-tested _ _ _ (rules text) (λ r. refl) (λ n t. refl) (λ n t. refl)

pub note_tested : Tested note_codec bad_note (numbered_fine (suc session_limit))
unfolding bad_note bad_numbered
note_tested = numbered-tested _ _ _ (suc session_limit) (λ r. refl) (λ n t. refl) (λ n t. refl)

filter_written : (text : List ℕ) (r : FilterRow) → bad_filter text r ≡ false → filter_fine (rules text) (filter_codec.put r) ≡ true
unfolding bad_filter bad_eq filter_fine padded filter_codec filter_text field u16 number
filter_written text r e =
    let h = or_split (bad_eq text (ownerless r)) _ e in
    let k = or_split (leb (rules text) r.rule) _ h.0 in
    let o = or_split (over id_limit r.owner) _ h.1 in
    let short = ltb-false text_limit (length r.text) k.1 in
    let short-owner = ltb-false id_limit (length r.owner) o.0 in
    let there = pad-length text_limit r.text short in
    rw (
      div-add-mod' r.rule 256,
      div-add-mod' (length r.text) 256,
      div-add-mod' (length r.owner) 256,
      lt-ltb r.rule (rules text) (leb-false _ _ k.0),
      le-leb (length r.text) text_limit short,
      le-leb (length r.owner) id_limit short-owner,
      take_at (pad text_limit r.text) (pad id_limit r.owner) text_limit there,
      drop_at (pad text_limit r.text) (pad id_limit r.owner) text_limit there,
      pad-drop text_limit r.text,
      zeros_replicate (text_limit - length r.text),
      padded_written id_limit r.owner short-owner,
      pad-take text_limit r.text,
    )
    (not-false _ o.1)

-- the parts of the test of a filter row
record FineFilter (bound : ℕ) (b : List ℕ) : Type 0 where
  rule : number b < bound
  text : padded 6 text_limit (number (drop 2 b)) b ≡ true
  owner : padded (6 + text_limit) id_limit (number (drop 4 b)) b ≡ true
  valid : valid_filter (filter_text b) ≡ true

fine_filter : (bound : ℕ) (b : List ℕ) → filter_fine bound b ≡ true → FineFilter bound b
unfolding filter_fine
fine_filter bound b e =
    let h = and_split (ltb (number b) bound) _ e in
    let k = and_split (padded 6 text_limit (number (drop 2 b)) b) _ h.1 in
    let o = and_split (padded (6 + text_limit) id_limit (number (drop 4 b)) b) _ k.1 in
    record { rule = ltb-true _ _ h.0; text = k.0; owner = o.0; valid = o.1 }

filter_again : (bound : ℕ) (b : List ℕ) → length b ≡ 326 → Bytes b → filter_fine bound b ≡ true → filter_codec.put (filter_codec.get b) ≡ b
unfolding filter_codec filter_text filter_owner
filter_again bound b l y e =
    let h = fine_filter bound b e in
    let f = field_again 6 text_limit (number (drop 2 b)) b (omega arith) h.text in
    let o = field_again (6 + text_limit) id_limit (number (drop 4 b)) b (omega arith) h.owner in
    let end = take_all id_limit (drop (6 + text_limit) b) (omega (arith, length-drop (6 + text_limit) b)) in
    rw (
      f.count,
      f.field,
      o.count,
      o.field,
      u16_at b 0 y (omega arith),
      u16_at b 2 y (omega arith),
      u16_at b 4 y (omega arith),
      end,
      stretch 6 text_limit b,
      stretch 4 2 b,
      stretch 2 2 b,
    )
    (stretch 0 2 b)

filter_good : (text b : List ℕ) → filter_fine (rules text) b ≡ true → bad_filter text (filter_codec.get b) ≡ false
unfolding bad_filter bad_eq filter_codec filter_text filter_owner
filter_good text b e =
    let h = fine_filter (rules text) b e in
    rw (
      lt-leb (rules text) (number b) h.rule,
      field_short 6 text_limit (number (drop 2 b)) b,
      field_short (6 + text_limit) id_limit (number (drop 4 b)) b,
      h.valid,
    )

pub filter_tested : (text : List ℕ) → Tested filter_codec (bad_filter text) (filter_fine (rules text))
unfolding filter_codec
filter_tested text =
    record {
      reads = reads_of filter_reads (good_filter text);
      written = filter_written text;
      again = filter_again (rules text);
      good = filter_good text;
    }
