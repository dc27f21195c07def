-- `questions::decision::rule_agrees` meets its contract: each return is what the line's head, its topics and the rows say. No loop. Assumes
-- nothing.
use mathlib.Core.Path.{refl, sym, ◌∙◌}
use mathlib.Core.Bool.{true≢false}
use Rattle.questions.proofs.AgreeLaws.{line_differs, line-all, line_by}
use Rattle.questions.proofs.decision.rule_agrees.Goals.{then-some_topic_agrees, else-some_topic_agrees}
use Rattle.questions.proofs.decision.rule_agrees.Goals as goal

pub returns-in_default : goal.returns-in_default
returns-in_default c =
    sym (line_differs _ _ _ _ _ _ _ (sym c.in_default.ensures))

pub returns-in_default-topics : goal.returns-in_default-topics
returns-in_default-topics c =
    sym (line-all _ _ _ _ _ _ _ (sym c.in-Some.ensures) c.in_default-topics.is)

pub returns-then-eq_row_agrees : goal.returns-then-eq_row_agrees
returns-then-eq_row_agrees c =
    c.if-eq_row_agrees.true
    ∙ elim c.if-some_topic_agrees.branch [
      | then-some_topic_agrees w ↦
          sym (line_by _ _ _ _ _ _ _ (sym c.in-Some.ensures) c.in-Some-topics.is refl (sym w.if-some_topic_agrees.ensures) refl)
      | else-some_topic_agrees w ↦
          sym (line_by _ _ _ _ _ _ _ (sym c.in-Some.ensures) c.in-Some-topics.is refl (sym w.if-some_topic_agrees.ensures)
          (sym w.eq_row_agrees.ensures ∙ (sym w.value-is ∙ c.if-eq_row_agrees.true)))
    ]

pub returns-else-eq_row_agrees : goal.returns-else-eq_row_agrees
returns-else-eq_row_agrees c =
    elim c.if-some_topic_agrees.branch [
      | then-some_topic_agrees w ↦ absurd (true≢false (sym w.if-some_topic_agrees.true ∙ (sym w.value-is ∙ c.if-eq_row_agrees.false)))
      | else-some_topic_agrees w ↦
          rw (c.id.ensures, c.new.ensures) at c.filter_row_agrees.ensures
          ∙ sym (line_by _ _ _ _ _ _ _ (sym c.in-Some.ensures) c.in-Some-topics.is refl (sym w.if-some_topic_agrees.ensures)
          (sym w.eq_row_agrees.ensures ∙ (sym w.value-is ∙ c.if-eq_row_agrees.false)))
    ]
