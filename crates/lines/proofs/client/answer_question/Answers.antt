-- The question is that of the line's form. Assumes nothing.
use Rattle.std.specs.Prelude.{None, Some}
use mathlib.Core.Path.{refl, sym, ap, ◌∙◌}
use Rattle.lines.specs.Client.{question_said}
use Rattle.lines.specs.Reading.{elements}
use Rattle.lines.proofs.ClientLaws.{array_stands, question_as, question_is, other_form, unasked}
use Rattle.lines.proofs.client.answer_question.Goals as goal

pub returns-in_err-form : goal.returns-in_err-form
unfolding question_as
returns-in_err-form c =
    let line = c.args.array.now.line.now in
    let es = elements line in
    let is = array_stands line c.args.array.now.is_array in
    let at = c.args.array.now.placed in
    unasked _ _ c.from_residual.ensures (question_is line es is at c.form.ensures c.in_err-form.was)

pub returns-in-Subscribe : goal.returns-in-Subscribe
unfolding question_as
returns-in-Subscribe c =
    let line = c.args.array.now.line.now in
    let es = elements line in
    let is = array_stands line c.args.array.now.is_array in
    let at = c.args.array.now.placed in
    c.ask_subscribe.ensures ∙ sym (ap (question_said _ _) (question_is line es is at c.form.ensures (c.in_ok-form.was ∙ ap Some c.in-Subscribe.is)))

pub returns-in-Publish : goal.returns-in-Publish
unfolding question_as
returns-in-Publish c =
    let line = c.args.array.now.line.now in
    let es = elements line in
    let is = array_stands line c.args.array.now.is_array in
    let at = c.args.array.now.placed in
    c.ask_publish.ensures ∙ sym (ap (question_said _ _) (question_is line es is at c.form.ensures (c.in_ok-form.was ∙ ap Some c.in-Publish.is)))

pub returns-in_default : goal.returns-in_default
returns-in_default c =
    let line = c.args.array.now.line.now in
    let es = elements line in
    let is = array_stands line c.args.array.now.is_array in
    let at = c.args.array.now.placed in
    unasked _ _ {r = None} refl (question_is line es is at c.form.ensures c.in_ok-form.was ∙ other_form es _ c.in_default.not-Subscribe c.in_default.not-Publish)
