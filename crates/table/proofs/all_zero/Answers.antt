-- `table::all_zero` meets its contract. The loop's invariant: all bytes are zero if `zero` holds and those from `i` on are zero, and `i` is less than
-- a stretch behind the last one. The measure is what is left up to that. Assumes nothing.
use Prim.Native.Nat.{◌-◌}
use mathlib.Core.Path.{refl, sym, ◌∙◌}
use native.Mathlib.Nat.{add-sub_cancel_left}
use native.Mathlib.Omega.{arith}
use borrow.Author.Rules.{part_to_end}
use lib.ListN.{length, take}
use Rattle.table.specs.Bytes.{zeros}
use Rattle.table.proofs.ByteLaws.{zeros_split, zeros_stretch, zeros_overlap}
use Rattle.table.proofs.all_zero.Goals as goal

pub returns-then-n-lt-STRETCH : goal.returns-then-n-lt-STRETCH
returns-then-n-lt-STRETCH c =
    rw (c.zero_part-then-n-lt-STRETCH.ensures, c.zero_part-then-n-lt-STRETCH-2.ensures, part_to_end) (zeros_overlap (zeros (take 32 c.args.bytes.now)) c.args.bytes.now (length c.args.bytes.now - 32) 32 (omega arith) (sym (zeros_split 32 c.args.bytes.now)))

pub loop-i-init : goal.loop-i-init
loop-i-init c =
    refl

pub loop-i-preserved : goal.loop-i-preserved
loop-i-preserved c =
    rw (c.zero_part-zero.ensures, add-sub_cancel_left) (zeros_stretch c.loop-i.zero c.args.bytes.now c.loop-i.i 64) ∙ c.loop-i.invariant

pub returns : goal.returns
returns c =
    rw (c.zero_part-2.ensures, part_to_end) (zeros_overlap c.loop-i.zero c.args.bytes.now (length c.args.bytes.now - 64) c.loop-i.i c.loop-i-test.false c.loop-i.invariant)
