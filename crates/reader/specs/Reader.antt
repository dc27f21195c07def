-- How a reader goes over a line (document 01, "Code places and their forms"). Its offset is that of what comes next, or the line's length at the line's end.
use Rattle.std.specs.Prelude.{ℕ, zero, suc, cond, List, ltb, length, Option, Some, None, unwrap_or}
use Rattle.json_text.specs.Json.{skip_blanks}
use Rattle.json_text.specs.Access.{first_item, next_item}
use Rattle.reader.specs.declared.Fields.{Fields}

-- the offset of a place, and the place with an offset: nowhere is the line's end
unfoldable pub offset_of : List ℕ → Option ℕ → ℕ
offset_of line place = unwrap_or place (length line)

unfoldable pub place_at : List ℕ → ℕ → Option ℕ
place_at line at = cond (ltb at (length line)) (Some at) None

-- the first element of the array at an offset, and the element after the one at an offset
unfoldable pub first_offset : List ℕ → ℕ → ℕ
first_offset line at = offset_of line (first_item 0x5b 0x5d line at)

unfoldable pub next_offset : List ℕ → ℕ → ℕ
next_offset line at = offset_of line (next_item line at)

-- the offset after so many moves from the first element of the line's array, and the place of the element there
unfoldable pub offset_after : List ℕ → ℕ → ℕ
offset_after line zero = first_offset line (skip_blanks line 0)
offset_after line (suc n) = next_offset line (offset_after line n)

unfoldable pub element_after : List ℕ → ℕ → Option ℕ
element_after line n = place_at line (offset_after line n)

-- the first nine elements of the line's array, where the line is a document; in any other bytes, places where one would begin
unfoldable pub fields_here : List ℕ → Fields
fields_here line =
    record {
      first = element_after line 0;
      second = element_after line 1;
      third = element_after line 2;
      fourth = element_after line 3;
      fifth = element_after line 4;
      sixth = element_after line 5;
      seventh = element_after line 6;
      eighth = element_after line 7;
      ninth = element_after line 8;
    }
