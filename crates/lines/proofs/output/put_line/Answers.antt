-- The line's end is within the buffer, where it fits. Assumes nothing.
use native.Mathlib.Omega.{arith}
use mathlib.Core.Path.{sym, ◌∙◌}
use Prim.Native.Nat.{◌+◌}
use lib.ListN.{length}
use borrow.Author.Tests.{leb-true}
use Rattle.text.specs.Text.{fits_at}
use Rattle.lines.proofs.output.put_line.Goals as goal

pub then-requires : goal.then-requires
unfolding fits_at
then-requires c =
    λ fits κs piece vals ranges u at.
    omega (arith, leb-true (c.args.at + length c.text-text.result.now) (length c.args.buffer.now) (sym c.paste.ensures.value ∙ fits))
