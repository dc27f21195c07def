-- `table::words::before` meets its contract: the first words that differ decide. Assumes nothing.
use Prim.Native.Nat.{◌-◌}
use mathlib.Core.Path.{sym, ap, ◌∙◌}
use native.Mathlib.Omega.{arith}
use borrow.Author.Count.{below_more}
use borrow.Author.Tests.{ltb-true}
use Rattle.table.specs.Order.{eight}
use Rattle.table.proofs.OrderLaws.{word_whole, word_last}
use Rattle.table.proofs.words.before.Goals as goal

pub returns-then-x-y : goal.returns-then-x-y
returns-then-x-y c e =
    record {
      place = c.loop-i.i;
      alike = c.loop-i.invariant;
      less = omega (arith, word_whole c.loop-i.i c.args.a.now c.loop-i-test.true, word_whole c.loop-i.i c.args.b.now (omega arith), ltb-true);
    }

pub loop-i-preserved : goal.loop-i-preserved
loop-i-preserved c =
    below_more _ _ c.loop-i.invariant (word_whole c.loop-i.i c.args.a.now c.loop-i-test.true ∙ (cc) ∙ sym (word_whole c.loop-i.i c.args.b.now (omega arith)))

pub returns : goal.returns
returns c e =
    record {
      place = c.loop-i.i;
      alike = c.loop-i.invariant;
      less = omega (arith, word_last c.loop-i.i c.args.a.now c.loop-i-test.false, word_last c.loop-i.i c.args.b.now (omega arith), ap (λ n. eight (n - 8) c.args.b.now) c.if-b-size.false, ltb-true);
    }
