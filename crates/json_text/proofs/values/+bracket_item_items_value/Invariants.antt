-- The measures and the loop's invariant of the cycle of calls {bracket, item, items, value}. A value calls a bracket one level deeper, a bracket its
-- items, those an item, and that a value, so with depth d the measures are 4 d, 4 d + 3, 4 d + 2, 4 d + 1. The loop's invariant: what the items
-- come to from the cursor on is what they come to from the first; its measure is what is left of the line. Assumes nothing.
use Rattle.std.proofs.Common.{length, ◌-◌, ◌≡◌, ◌+◌, ◌*◌}
use Rattle.json_text.specs.Json.{value_at, longest}
use Rattle.json_text.specs.Access.{stepped, itemized}
use Rattle.json_text.proofs.ValueLaws.{itemized_from}
use Rattle.json_text.proofs.values.+bracket_item_items_value.Given as goal

abbrev pub decreases-bracket : goal.decreases-bracket
decreases-bracket l = 4 * l.depth + 3

abbrev pub decreases-item : goal.decreases-item
decreases-item l = 4 * l.depth + 1

abbrev pub decreases-items : goal.decreases-items
decreases-items l = 4 * l.depth + 2

abbrev pub decreases-value : goal.decreases-value
decreases-value l = 4 * l.depth

abbrev pub invariant-items-loop-cursor : goal.invariant-items-loop-cursor
invariant-items-loop-cursor l =
    stepped longest l.cursor.longest (itemized_from l.depth l.line l.object l.cursor.at)
    ≡ stepped longest l.initial.cursor.longest (itemized l.object (value_at l.depth l.line) l.line (length l.line) l.initial.cursor.at)

abbrev pub decreases-items-loop-cursor : goal.decreases-items-loop-cursor
decreases-items-loop-cursor l = length l.line - l.cursor.at
