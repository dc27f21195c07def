-- `questions::decision::deciding_in` meets its contract. Assumes nothing.
use mathlib.Core.Path.{◌≡◌, sym, ◌∙◌}
use mathlib.Core.Bool.{false}
use Prim.Native.Nat.{◌-◌}
use lib.ListN.{length}
use Rattle.questions.specs.Parts.{some_topic_from}
use Rattle.questions.proofs.DecisionLaws.{here, none_decides, here_less, here_differs, here_passes, all_decides, topic_decides, eq_decides, filter_decides, some_end, some_none}
use Rattle.questions.proofs.PassLaws.{some_passed, every_here}
use Rattle.questions.proofs.decision.deciding_in.Goals.{else-topics-test, then-topics-test+in_default-next, then-eq_row_agrees-via-then-eq_row_agrees, then-eq_row_agrees-via-else-eq_row_agrees+then-filter_row_agrees}
use Rattle.questions.proofs.decision.deciding_in.Goals as goal

pub head_of-requires : goal.head_of-requires
head_of-requires c =
    λ k. (every_here (here c.rules.invariant.0 c.if-rules-at.false c.line_at-line.ensures c.line_behind-at.ensures) (c.rules.invariant.1 k)).0

pub rules-smaller-in_default : goal.rules-smaller-in_default
rules-smaller-in_default c =
    here_less (here c.rules.invariant.0 c.if-rules-at.false c.line_at-line.ensures c.line_behind-at.ensures)

pub rules-preserved-in_default : goal.rules-preserved-in_default
rules-preserved-in_default c =
    let line = here c.rules.invariant.0 c.if-rules-at.false c.line_at-line.ensures c.line_behind-at.ensures in
    (here_differs line (sym c.in_default.ensures), λ k. (every_here line (c.rules.invariant.1 k)).1)

pub topics-preserved : goal.topics-preserved
topics-preserved c =
    sym (some_passed _ _ (length c.line_at-line.result.now) c.topics.counter c.topics-test.true c.in-Some-next.is (sym (rw c.new-known.ensures at c.in-Onward.ensures))) ∙ c.topics.invariant

pub rules-smaller : goal.rules-smaller
rules-smaller c =
    here_less (here c.rules.invariant.0 c.if-rules-at.false c.line_at-line.ensures c.line_behind-at.ensures)

pub rules-preserved : goal.rules-preserved
rules-preserved c =
    let left : some_topic_from c.args.topic.now (length c.line_at-line.result.now - c.topics.counter) c.line_at-line.result.now c.topics.next ≡ false =
    elim c.topics-test.branch [
      | else-topics-test w ↦ some_none _ (length c.line_at-line.result.now) c.topics.counter _ _ w.topics-test.false
      | then-topics-test+in_default-next w ↦ some_end _ _ _ w.in_default-next.is
    ] in
    let line = here c.rules.invariant.0 c.if-rules-at.false c.line_at-line.ensures c.line_behind-at.ensures in (
      here_passes line (sym c.in-Some.ensures) c.in-Some-topics.is (sym c.topics.invariant ∙ left) (sym c.if-eq_row_agrees.ensures) (sym (rw (c.id.ensures, c.new-known.ensures) at c.if-filter_row_agrees.ensures)),
      λ k. (every_here line (c.rules.invariant.1 k)).1,
    )

pub returns-then-rules-at : goal.returns-then-rules-at
returns-then-rules-at c =
    none_decides _ _ _ _ _ _ c.rules.n c.rules.at c.rules.invariant.0 c.if-rules-at.true

pub returns-in_default-topics : goal.returns-in_default-topics
returns-in_default-topics c =
    all_decides (here c.rules.invariant.0 c.if-rules-at.false c.line_at-line.ensures c.line_behind-at.ensures) (sym c.in-Some.ensures) c.in_default-topics.is

pub returns-in-Agrees : goal.returns-in-Agrees
returns-in-Agrees c =
    topic_decides (here c.rules.invariant.0 c.if-rules-at.false c.line_at-line.ensures c.line_behind-at.ensures) (sym c.in-Some.ensures) c.in-Some-topics.is
    (sym c.topics.invariant ∙ some_passed _ _ (length c.line_at-line.result.now) c.topics.counter c.topics-test.true c.in-Some-next.is (sym (rw c.new-known.ensures at c.in-Agrees.ensures)))

pub returns-then-eq_row_agrees : goal.returns-then-eq_row_agrees
returns-then-eq_row_agrees c =
    let line = here c.rules.invariant.0 c.if-rules-at.false c.line_at-line.ensures c.line_behind-at.ensures in
    elim c.then-eq_row_agrees.branch [
      | then-eq_row_agrees-via-then-eq_row_agrees w ↦ eq_decides line (sym c.in-Some.ensures) c.in-Some-topics.is (sym w.if-eq_row_agrees.ensures)
      | then-eq_row_agrees-via-else-eq_row_agrees+then-filter_row_agrees w ↦
          filter_decides line (sym c.in-Some.ensures) c.in-Some-topics.is (sym (rw (w.id.ensures, c.new-known.ensures) at w.if-filter_row_agrees.ensures))
    ]
