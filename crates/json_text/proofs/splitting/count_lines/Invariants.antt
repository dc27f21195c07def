-- The loop's invariant: `n` with the number of lines from `at` on is the number of lines, and `n` is at most `most`. The measure is
-- what is left of the text. Assumes nothing.
use Prim.Native.Nat.{◌-◌}
use lib.ListN.{length}
use Rattle.json_text.proofs.LineLaws.{Counted}
use Rattle.json_text.proofs.splitting.count_lines.Given as goal

abbrev pub invariant-loop-at : goal.invariant-loop-at
invariant-loop-at l =
    Counted l.text l.most l.n l.at

abbrev pub decreases-loop-at : goal.decreases-loop-at
decreases-loop-at l =
    length l.text - l.at
