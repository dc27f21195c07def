-- What a store holds: document 01, Store. Texts are lists of bytes.
use Rattle.std.specs.Prelude.{ℕ, ◌+◌, ◌*◌, Bool, ◌&&◌, List, eqb, leb, ltb, length}
use Rattle.text.specs.Text.{same}
use Rattle.store.specs.declared.Counts.{Counts}

-- "R is 1 to 32,768; F, E, N 1 to 4,096"
abbrev pub bytes_limit : ℕ
bytes_limit = 32768

abbrev pub rows_limit : ℕ
rows_limit = 4096

-- "session over 255"
abbrev pub session_limit : ℕ
session_limit = 255

-- is the text over the limit?
abbrev pub over : ℕ → List ℕ → Bool
over limit text = ltb limit (length text)

-- "Filter row, 326 bytes", "Eq row, 260", "Note row, 260"
abbrev pub filter_size : ℕ
filter_size = 326

abbrev pub eq_size : ℕ
eq_size = 260

abbrev pub note_size : ℕ
note_size = 260

-- "R, F, E, N": the bytes for the rule text and the rows that each table has room for
unfoldable pub one_to : ℕ → ℕ → Bool
one_to most n = leb 1 n && leb n most

unfoldable pub counts_fit : Counts → Bool
counts_fit c = one_to bytes_limit c.bytes && (one_to rows_limit c.filters && (one_to rows_limit c.eqs && one_to rows_limit c.notes))

-- "The length of a store follows from its four counts: 16 + R + 326F + 260E + 260N"
unfoldable pub store_length : Counts → ℕ
store_length c = 16 + c.bytes + filter_size * c.filters + eq_size * c.eqs + note_size * c.notes

-- "Filter row: rule number from 0, .. text, .. owner"
pub record FilterRow : Type 0 where
  pub rule : ℕ
  pub text : List ℕ
  pub owner : List ℕ

-- "Eq row: rule, .. text"
pub record EqRow : Type 0 where
  pub rule : ℕ
  pub text : List ℕ

-- "Note row: session, .. text"
pub record NoteRow : Type 0 where
  pub session : ℕ
  pub text : List ℕ

-- a filter row without its owner
abbrev pub ownerless : FilterRow → EqRow
ownerless r = record { rule = r.rule; text = r.text }

-- rows are equal if all their bytes are
unfoldable pub same_eq : EqRow → EqRow → Bool
same_eq r t = eqb r.rule t.rule && same r.text t.text

unfoldable pub same_filter : FilterRow → FilterRow → Bool
same_filter r t = same_eq (ownerless r) (ownerless t) && same r.owner t.owner

unfoldable pub same_note : NoteRow → NoteRow → Bool
same_note r t = eqb r.session t.session && same r.text t.text

-- what a store as laid out means: counts, rule text and the used rows of the three tables, "in order of arrival"
pub record View : Type 0 where
  pub counts : Counts
  pub text : List ℕ
  pub filters : List FilterRow
  pub eqs : List EqRow
  pub notes : List NoteRow
