-- The digits that `itoa` writes are the number's decimal (`spelt`). Assumes nothing.
use mathlib.Core.Path.{◌≡◌}
use Prim.Native.Nat.{◌-◌}
use native.Mathlib.Omega.{arith}
use lib.ListN.{take, drop}
use Rattle.lines.specs.Output.{decimal}
use Rattle.lines.proofs.DecimalLaws.{std_decimal, decimal-length, spelt}
use Rattle.lines.proofs.output.Line.push_decimal.Goals as goal

pub write_digits-start-requires : goal.write_digits-start-requires
write_digits-start-requires c = (rw (std_decimal c.args.n (omega arith)) (decimal-length c.args.n), omega arith)

pub returns : goal.returns
returns c =
    let spelling : take (20 - c.write_digits-start.result) (drop c.write_digits-start.result c.write_digits-start.new.buf) ≡ decimal c.args.n = spelt c.write_digits-start.result _ (omega arith) c.write_digits-start.ensures.start c.write_digits-start.ensures.written in
    record { text = rw spelling at c.push.ensures.text; len = omega arith }
