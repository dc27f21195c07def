-- The check behind number 3, byte by byte: what the functions of check.rt answer. That it is `view` is a law (proofs/ViewLaws.antt).
use Rattle.std.specs.Prelude.{ℕ, suc, ◌+◌, ◌*◌, Bool, true, false, ◌&&◌, not, cond, List, eqb, leb, ltb, length, take, drop, Option, None, Some}
use Rattle.text.specs.Text.{same}
use Rattle.topic.specs.Topic.{valid_filter}
use Rattle.table.specs.Table.{some_row, distinct}
use Rattle.table.specs.Bytes.{number, zeros, rows}
use Rattle.rule.specs.Limits.{text_limit, id_limit}
use Rattle.rule.specs.RuleText.{text_fault}
use Rattle.store.specs.declared.Counts.{Counts}
use Rattle.store.specs.Store.{filter_size, eq_size, note_size, session_limit, counts_fit, store_length, View}
use Rattle.store.specs.Layout.{filter_text, counts, text_used, filters_used, eqs_used, notes_used, text_part, filter_part, eq_part, note_part}
use Rattle.store.specs.View.{faultless, rules}
use Rattle.store.specs.declared.Shape.{Shape}

-- the rule text with its padding, of which so many bytes are used
unfoldable pub text_fine : ℕ → List ℕ → Bool
text_fine used part = leb used (length part) && (zeros (drop used part) && faultless (text_fault (take used part)))

-- the number of its rules, if it is as laid out
unfoldable pub text_rules : ℕ → List ℕ → Option ℕ
text_rules used part = cond (text_fine used part) (Some (rules (take used part))) None

-- a field of `width` bytes from `at` on with a text of `n` bytes: "lengths", "padding"
unfoldable pub padded : ℕ → ℕ → ℕ → List ℕ → Bool
padded at width n row = leb n width && zeros (drop n (take width (drop at row)))

-- a filter row whose rule has to be below a bound
unfoldable pub filter_fine : ℕ → List ℕ → Bool
filter_fine bound row =
    ltb (number row) bound
    && (padded 6 text_limit (number (drop 2 row)) row
    && (padded (6 + text_limit) id_limit (number (drop 4 row)) row && valid_filter (filter_text row)))

-- an eq row whose rule, or a note row whose session, has to be below a bound
unfoldable pub numbered_fine : ℕ → List ℕ → Bool
numbered_fine bound row = ltb (number row) bound && padded 4 text_limit (number (drop 2 row)) row

-- a table of rows of a size, with the test of a row: the used rows are there, each is fine, the others are zero, and no two are equal
unfoldable pub table_fine : ℕ → (List ℕ → Bool) → ℕ → List ℕ → Bool
table_fine size fine used part =
    leb (used * size) (length part)
    && (not (some_row (λ r. not (fine r)) (rows size used part))
    && (zeros (drop (used * size) part) && distinct same (rows size used part)))

-- the rules of a store's text
unfoldable pub rules_of : List ℕ → ℕ
rules_of s = rules (take (text_used s) (text_part s))

unfoldable pub laid_out : List ℕ → Bool
laid_out s =
    counts_fit (counts s)
    && (eqb (length s) (store_length (counts s))
    && (text_fine (text_used s) (text_part s)
    && (table_fine filter_size (filter_fine (rules_of s)) (filters_used s) (filter_part s)
    && (table_fine eq_size (numbered_fine (rules_of s)) (eqs_used s) (eq_part s)
    && table_fine note_size (numbered_fine (suc session_limit)) (notes_used s) (note_part s)))))

-- counts, if they are in range
unfoldable pub counts_read : Counts → Option Counts
counts_read c = cond (counts_fit c) (Some c) None

-- the counts and lengths of what a store means
unfoldable pub shape_of : Option View → Option Shape
shape_of None = None
shape_of (Some v) =
    Some
    (record {
      counts = v.counts;
      text = length v.text;
      filters = length v.filters;
      eqs = length v.eqs;
      notes = length v.notes;
    })

-- "as laid out or not"
unfoldable pub is_there : Option View → Bool
is_there None = false
is_there (Some v) = true
