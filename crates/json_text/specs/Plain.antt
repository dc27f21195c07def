-- Strings that are their own decoded text: all their bytes are plain.
use Rattle.std.specs.Prelude.{ℕ, ◌+◌, cond, List, drop, Option, Some, None}
use Rattle.std.specs.List.{prefix_len}
use Rattle.json_text.specs.Strings.{quote, is_plain}
use Rattle.json_text.specs.Json.{is_at}

-- the number of plain bytes at the front
abbrev pub plains : List ℕ → ℕ
plains s = prefix_len is_plain s

-- the place of the first byte that isn't plain, from this place on
unfoldable pub skip_plains : List ℕ → ℕ → ℕ
skip_plains line at = at + plains (drop at line)

-- the closing quote of the string at this place; nowhere, if one of its bytes isn't plain
unfoldable pub plain_text : List ℕ → ℕ → Option ℕ
plain_text line at =
    let end = skip_plains line (at + 1) in cond (is_at line at quote) (cond (is_at line end quote) (Some end) None) None
