-- The store's bytes: document 01, Store.
use Rattle.std.specs.Prelude.{ℕ, ◌+◌, ◌*◌, ◌-◌, cond, List, ◌++◌, map, eqb, length, take, drop, replicate}
use Rattle.table.specs.Bytes.{u16, number, rows, join}
use Rattle.rule.specs.Limits.{text_limit, id_limit}
use Rattle.store.specs.declared.Counts.{Counts}
use Rattle.store.specs.Store.{filter_size, eq_size, note_size, FilterRow, EqRow, NoteRow, View}

-- "zero padded" to a width
unfoldable pub pad : ℕ → List ℕ → List ℕ
pad width text = text ++ replicate (width - length text) 0

-- how a row is written and read, and how many bytes it has
pub record Codec (Row : Type 0) : Type 0 where
  pub size : ℕ
  pub put : Row → List ℕ
  pub get : List ℕ → Row

-- a row's text: the first so many of the bytes that its field has
unfoldable pub field : ℕ → ℕ → ℕ → List ℕ → List ℕ
field at width n row = take n (take width (drop at row))

-- "Filter row, 326 bytes: rule number from 0, text length, owner length (u16 each), 256 text, 64 owner"
unfoldable pub filter_text : List ℕ → List ℕ
filter_text row = field 6 text_limit (number (drop 2 row)) row

unfoldable pub filter_owner : List ℕ → List ℕ
filter_owner row = field (6 + text_limit) id_limit (number (drop 4 row)) row

unfoldable pub filter_codec : Codec FilterRow
filter_codec =
    record {
      size = filter_size;
      put = λ r. u16 r.rule ++ (u16 (length r.text) ++ (u16 (length r.owner) ++ (pad text_limit r.text ++ pad id_limit r.owner)));
      get = λ s. record { rule = number s; text = filter_text s; owner = filter_owner s };
    }

-- a row of 260 bytes: a number, the text's length, 256 text
unfoldable pub numbered_text : List ℕ → List ℕ
numbered_text row = field 4 text_limit (number (drop 2 row)) row

unfoldable pub numbered_codec : {Row : Type 0} → (Row → ℕ) → (Row → List ℕ) → (ℕ → List ℕ → Row) → Codec Row
numbered_codec key text make =
    record {
      size = eq_size;
      put = λ r. u16 (key r) ++ (u16 (length (text r)) ++ pad text_limit (text r));
      get = λ s. make (number s) (numbered_text s);
    }

-- "Eq row, 260: rule, length, 256 text"
abbrev pub eq_codec : Codec EqRow
eq_codec = numbered_codec (λ r. r.rule) (λ r. r.text) (λ n text. record { rule = n; text = text })

-- "Note row, 260: session, length, 256 text"
abbrev pub note_codec : Codec NoteRow
note_codec = numbered_codec (λ r. r.session) (λ r. r.text) (λ n text. record { session = n; text = text })

module _ {Row : Type 0} (c : Codec Row) where
  -- "Used rows come first, in order of arrival"
  unfoldable pub put_all : List Row → List ℕ
  put_all rows = join (map c.put rows)

  unfoldable pub get_all : ℕ → List ℕ → List Row
  get_all n s = map c.get (rows c.size n s)

  -- "Padding and unused rows are zero"
  unfoldable pub area : ℕ → List Row → List ℕ
  area room rows = pad (room * c.size) (put_all rows)

-- a buffer with a row written to it, if it has the row's size; else the buffer as it was
unfoldable pub put_row : {Row : Type 0} → Codec Row → Row → List ℕ → List ℕ
put_row c r buffer = cond (eqb (length buffer) c.size) (c.put r) buffer

-- "Little-endian u16: R, F, E, N, text length, filter, eq and note rows used"
unfoldable pub header : Counts → ℕ → ℕ → ℕ → ℕ → List ℕ
header c text filters eqs notes =
    u16 c.bytes ++ (u16 c.filters ++ (u16 c.eqs ++ (u16 c.notes ++ (u16 text ++ (u16 filters ++ (u16 eqs ++ u16 notes))))))

-- "Then R bytes of rule text, zero padded, and F, E, N rows"
unfoldable pub layout : View → List ℕ
layout v =
    header v.counts (length v.text) (length v.filters) (length v.eqs) (length v.notes)
    ++ (pad v.counts.bytes v.text
    ++ (area filter_codec v.counts.filters v.filters
    ++ (area eq_codec v.counts.eqs v.eqs ++ area note_codec v.counts.notes v.notes)))

-- the counts and the numbers that a store's header says
unfoldable pub counts : List ℕ → Counts
counts s = record { bytes = number s; filters = number (drop 2 s); eqs = number (drop 4 s); notes = number (drop 6 s) }

unfoldable pub text_used : List ℕ → ℕ
text_used s = number (drop 8 s)

unfoldable pub filters_used : List ℕ → ℕ
filters_used s = number (drop 10 s)

unfoldable pub eqs_used : List ℕ → ℕ
eqs_used s = number (drop 12 s)

unfoldable pub notes_used : List ℕ → ℕ
notes_used s = number (drop 14 s)

-- where the stretches of a store begin
unfoldable pub filters_at : Counts → ℕ
filters_at c = 16 + c.bytes

unfoldable pub eqs_at : Counts → ℕ
eqs_at c = filters_at c + c.filters * filter_size

unfoldable pub notes_at : Counts → ℕ
notes_at c = eqs_at c + c.eqs * eq_size

-- the stretches
unfoldable pub text_part : List ℕ → List ℕ
text_part s = take (counts s).bytes (drop 16 s)

unfoldable pub filter_part : List ℕ → List ℕ
filter_part s = take ((counts s).filters * filter_size) (drop (filters_at (counts s)) s)

unfoldable pub eq_part : List ℕ → List ℕ
eq_part s = take ((counts s).eqs * eq_size) (drop (eqs_at (counts s)) s)

unfoldable pub note_part : List ℕ → List ℕ
note_part s = take ((counts s).notes * note_size) (drop (notes_at (counts s)) s)

-- what the bytes say, whatever they are, cut to the room there is
unfoldable pub read_layout : List ℕ → View
read_layout s =
    record {
      counts = counts s;
      text = take (text_used s) (text_part s);
      filters = get_all filter_codec (filters_used s) (filter_part s);
      eqs = get_all eq_codec (eqs_used s) (eq_part s);
      notes = get_all note_codec (notes_used s) (note_part s);
    }

-- "all other bytes" of a store as laid out: all but those of the used rows
unfoldable pub outside_rows : List ℕ → List ℕ
outside_rows s =
    take (16 + (counts s).bytes) s
    ++ (drop (filters_used s * filter_size) (filter_part s)
    ++ (drop (eqs_used s * eq_size) (eq_part s) ++ drop (notes_used s * note_size) (note_part s)))
