-- The loop's invariant: the first `n` lines are rules, so that the first fault of the lines left is the text's. Assumes nothing.
use Rattle.json_text.specs.Lines.{lines}
use Rattle.rule.proofs.ReadLaws.{Passed}
use Rattle.rule.proofs.read.count_rules.Given as goal

abbrev pub invariant-loop-line : goal.invariant-loop-line
invariant-loop-line l =
    (goal.iterator-loop-line).can_next l.line-iterator
    × (goal.iterator-loop-line).is_finite l.line-iterator
    × Passed l.text l.n (lines l.line-iterator.rest.now)
