-- `text::replaced_length` meets its contract. The loop's invariant: `left` is at most the room, what is left at most the text, and the room that
-- is used with the length of what is left to replace is the length of the whole. Assumes nothing.
use Prim.Native.Nat.{◌+◌, ◌-◌, ◌≤◌}
use mathlib.Core.Path.{◌≡◌}
use lib.ListN.{length}
use Rattle.text.specs.Text.{replace}
use Rattle.text.proofs.replaced_length.Given as goal

abbrev pub invariant-loop-kept : goal.invariant-loop-kept
invariant-loop-kept l =
    (l.left ≤ l.room) × (length l.rest ≤ length l.text) × (l.room - l.left + length (replace l.pattern l.new l.rest) ≡ length (replace l.pattern l.new l.text))

abbrev pub decreases-loop-kept : goal.decreases-loop-kept
decreases-loop-kept l = length l.rest
