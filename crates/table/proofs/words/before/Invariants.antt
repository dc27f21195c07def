-- `table::words::before` meets its contract. The loop's invariant: the words below `i` are alike. Assumes nothing.
use Prim.Native.Nat.{ℕ, ◌<◌}
use mathlib.Core.Path.{◌≡◌}
use Rattle.table.specs.Order.{word}
use Rattle.table.proofs.words.before.Given as goal

abbrev pub invariant-loop-i : goal.invariant-loop-i
invariant-loop-i l =
    (k : ℕ) → k < l.i → word k l.a ≡ word k l.b
