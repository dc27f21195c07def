-- `questions::decision::deciding_in` meets its contract. The invariant of the loop over the lines: `at` is at most the text's length, `n` at
-- most `at`, the first rule that agrees, of the lines from `at` on, counted from `n`, is the first of all, and with `checked` these lines are
-- rules. The measure is what is left of the text. The invariant of the loop over a line's topics: one of the topics from `next` on, of as many as
-- turns are left, agrees if and only if one of all does. Assumes nothing.
use Prim.Native.Nat.{◌-◌}
use mathlib.Core.Path.{◌≡◌}
use mathlib.Core.Bool.{true}
use lib.ListN.{length, drop}
use Rattle.json_text.specs.Access.{first_item}
use Rattle.json_text.specs.Lines.{lines}
use Rattle.questions.specs.Parts.{every_rule, some_topic_from}
use Rattle.questions.proofs.DecisionLaws.{Walks}
use Rattle.questions.proofs.decision.deciding_in.Given as goal

abbrev pub invariant-topics : goal.invariant-topics
invariant-topics l =
    some_topic_from l.topic (length l.line - l.counter) l.line l.next ≡ some_topic_from l.topic (length l.line) l.line (first_item 0x5b 0x5d l.line l.array)

abbrev pub invariant-rules : goal.invariant-rules
invariant-rules l =
    Walks l.filters l.eqs l.client l.asked l.topic l.rules l.n l.at
    × (l.checked ≡ true → every_rule (lines (drop l.at l.rules)) ≡ true)

abbrev pub decreases-rules : goal.decreases-rules
decreases-rules l =
    length l.rules - l.at
