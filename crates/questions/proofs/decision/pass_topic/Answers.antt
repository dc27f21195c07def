-- A plain string, and one under `eq`, is tested where it is; any other topic is read through its value. Assumes nothing.
use mathlib.Core.Path.{refl, sym}
use Rattle.json_text.proofs.PlainLaws.{plain_string}
use Rattle.rule.proofs.OnePassLaws.{eq_to}
use Rattle.questions.proofs.PassLaws.{passed_plain, passed_eq}
use Rattle.questions.proofs.decision.pass_topic.Goals as goal

pub returns-then-text_agrees : goal.returns-then-text_agrees
returns-then-text_agrees c =
    sym (passed_plain c.args.topic.now.text.now c.args.line.now c.args.at (plain_string c.args.line.now c.args.at (sym c.in-Some.ensures)) (sym c.if-text_agrees.ensures) refl)

pub returns-in-Some : goal.returns-in-Some
returns-in-Some c =
    sym (passed_plain c.args.topic.now.text.now c.args.line.now c.args.at (plain_string c.args.line.now c.args.at (sym c.in-Some.ensures)) (sym c.if-text_agrees.ensures) (sym c.element_behind.ensures))

pub returns-then-eq_agrees : goal.returns-then-eq_agrees
returns-then-eq_agrees c =
    let under = eq_to c.args.line.now c.args.at (sym c.in-Some-eq_text.ensures) in
    sym (passed_eq c.args.topic.now.text.now c.args.line.now c.args.at under (sym c.if-eq_agrees.ensures) refl)

pub returns-in-Some-eq_text : goal.returns-in-Some-eq_text
returns-in-Some-eq_text c =
    let under = eq_to c.args.line.now c.args.at (sym c.in-Some-eq_text.ensures) in
    sym (passed_eq c.args.topic.now.text.now c.args.line.now c.args.at under (sym c.if-eq_agrees.ensures) (sym c.element_behind-in-Some-eq_text.ensures))
