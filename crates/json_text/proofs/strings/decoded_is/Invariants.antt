-- The loop's invariant: the text from `j` on is what is left of the string exactly where the text is the string. The measure is what is left
-- of the line. Assumes nothing.
use mathlib.Core.Path.{◌≡◌}
use Prim.Native.Nat.{◌-◌, ◌≤◌}
use lib.ListN.{length, drop}
use Rattle.json_text.proofs.StringLaws.{is_rest}
use Rattle.json_text.specs.Strings.{string_from}
use Rattle.json_text.specs.Access.{string_is}
use Rattle.json_text.proofs.strings.decoded_is.Given as goal

abbrev pub invariant-loop-i : goal.invariant-loop-i
invariant-loop-i l =
    (l.i ≤ length l.line) × (l.j ≤ length l.wanted) × (string_is l.line l.at l.wanted ≡ is_rest (drop l.j l.wanted) (string_from 0 (drop l.i l.line)))

abbrev pub decreases-loop-i : goal.decreases-loop-i
decreases-loop-i l =
    length l.line - l.i
