-- The loop's invariant: the answer from the next line on, behind what was found, is that of the text. Assumes nothing.
use Rattle.json_text.specs.Lines.{lines}
use Rattle.authinfo.specs.Places.{question_of}
use Rattle.authinfo.proofs.AskLaws.{After}
use Rattle.authinfo.proofs.ask.first_hit.Given as goal

abbrev pub invariant-loop-line : goal.invariant-loop-line
invariant-loop-line l =
    (goal.iterator-loop-line).can_next l.line-iterator
    × (goal.iterator-loop-line).is_finite l.line-iterator
    × After (question_of l.asks.asked l.asks.topic.now) l.asks.client.now.id l.asks.client.now.name l.rules l.found l.n (lines l.line-iterator.rest.now)
