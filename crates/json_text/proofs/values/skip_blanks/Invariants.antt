-- The loop's invariant: the blanks from `i` on end where those from `at` on do. The measure is what is left of the line. Assumes nothing.
use Prim.Native.Nat.{◌-◌}
use mathlib.Core.Path.{◌≡◌}
use lib.ListN.{length}
use Rattle.json_text.specs.Json.{skip_blanks}
use Rattle.json_text.proofs.values.skip_blanks.Given as goal

abbrev pub invariant-loop-i : goal.invariant-loop-i
invariant-loop-i l =
    skip_blanks l.line l.i ≡ skip_blanks l.line l.at

abbrev pub decreases-loop-i : goal.decreases-loop-i
decreases-loop-i l =
    length l.line - l.i
