-- `json_text::splitting::within_line` meets its contract. The loop's invariant: `within` says whether the line has `i` bytes. The measure is
-- what is left of the `n`. Assumes nothing.
use Prim.Native.Nat.{◌-◌, ◌≤◌}
use mathlib.Core.Path.{◌≡◌}
use lib.Dec.{leb}
use lib.ListN.{length}
use Rattle.json_text.specs.Lines.{line_at}
use Rattle.json_text.proofs.splitting.within_line.Given as goal

abbrev pub invariant-loop-i : goal.invariant-loop-i
invariant-loop-i l =
    (l.i ≤ l.n) × (l.within ≡ leb l.i (length (line_at l.text l.at)))

abbrev pub decreases-loop-i : goal.decreases-loop-i
decreases-loop-i l =
    l.n - l.i
