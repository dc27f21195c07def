-- `text::write_replaced` meets its contract. The loop's invariant: the buffer has the first `n` bytes of the result, whose others are what is left
-- to replace. Assumes nothing.
use lib.ListN.{length}
use Rattle.text.specs.Text.{replace}
use Rattle.text.proofs.Laws.{Wrote}
use Rattle.text.proofs.write_replaced.Given as goal

abbrev pub invariant-loop-rest : goal.invariant-loop-rest
invariant-loop-rest l = Wrote (replace l.pattern l.new l.text) l.initial.buffer l.buffer (replace l.pattern l.new l.rest) l.n

abbrev pub decreases-loop-rest : goal.decreases-loop-rest
decreases-loop-rest l = length l.rest
