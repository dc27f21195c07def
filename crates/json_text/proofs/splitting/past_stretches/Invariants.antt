-- The loop's invariant: the line that begins at `i` ends where the line that begins at `at` does. The measure is what is left of
-- the text. Assumes nothing.
use Prim.Native.Nat.{◌+◌, ◌-◌}
use mathlib.Core.Path.{◌≡◌}
use lib.ListN.{length}
use Rattle.json_text.specs.Lines.{line_at}
use Rattle.json_text.proofs.splitting.past_stretches.Given as goal

abbrev pub invariant-loop-i : goal.invariant-loop-i
invariant-loop-i l =
    l.i + length (line_at l.text l.i) ≡ l.at + length (line_at l.text l.at)

abbrev pub decreases-loop-i : goal.decreases-loop-i
decreases-loop-i l =
    length l.text - l.i
