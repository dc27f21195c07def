-- `text::put` meets its contract. The loop's invariant: `i` is at most the source's length, and the buffer is what it was with the first `i`
-- bytes of the source from `at` on (`paste` of lib.Seq). The measure is what is left of the source's length. Assumes nothing.
use Prim.Native.Nat.{◌-◌, ◌≤◌}
use mathlib.Core.Path.{◌≡◌}
use lib.ListN.{length}
use lib.Seq.{paste}
use Rattle.text.proofs.put.Given as goal

abbrev pub invariant-loop-i : goal.invariant-loop-i
invariant-loop-i l =
    (l.i ≤ length l.source) × (length l.buffer ≡ length l.initial.buffer) × (l.buffer ≡ paste l.initial.buffer l.at l.source l.i)

abbrev pub decreases-loop-i : goal.decreases-loop-i
decreases-loop-i l =
    length l.source - l.i
