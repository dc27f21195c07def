-- Rows as bytes: which of them the functions of leaving.rt remove.
use Rattle.std.specs.Prelude.{ℕ, List, length}
use Rattle.store.specs.Store.{FilterRow, NoteRow}
use Rattle.store.specs.Layout.{filter_codec, note_codec, get_all}

-- a row's bytes, read
unfoldable pub filter_row : List ℕ → FilterRow
filter_row row = filter_codec.get row

unfoldable pub note_row : List ℕ → NoteRow
note_row row = note_codec.get row

-- the used notes of a part: all its whole rows
unfoldable pub note_rows_in : List ℕ → List NoteRow
note_rows_in part = get_all note_codec (length part) part
