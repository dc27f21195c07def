-- The loop's invariant: the first `j` bytes of the string's text are written, and what is left of it is the string from `i` on. The measure
-- is what is left of the line. Assumes nothing.
use Prim.Native.Nat.{◌-◌, ◌≤◌}
use lib.ListN.{length, drop}
use Rattle.json_text.proofs.StringLaws.{Writing}
use Rattle.json_text.specs.Strings.{string_from, string_at}
use Rattle.json_text.proofs.strings.write_decoded.Given as goal

abbrev pub invariant-loop-i : goal.invariant-loop-i
invariant-loop-i l =
    (l.i ≤ length l.line) × Writing (string_at l.line l.at) (string_from 0 (drop l.i l.line)) l.initial.buffer l.buffer l.j

abbrev pub decreases-loop-i : goal.decreases-loop-i
decreases-loop-i l =
    length l.line - l.i
