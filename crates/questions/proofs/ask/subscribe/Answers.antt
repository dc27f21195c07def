-- `questions::ask::subscribe` meets its contract: what decides is asked last, and its answer is told. Assumes nothing.
use native.Mathlib.Omega.{arith}
use Rattle.rule.specs.Refusals.{first}
use Rattle.questions.specs.Question.{subscribe, question_cause}
use Rattle.questions.specs.Decision.{client, wish, keeps, refusal}
use Rattle.questions.specs.Parts.{wish_of}
use Rattle.questions.specs.Answers.{subscribe_says}
use Rattle.questions.proofs.AskLaws.{allowed, decided_by, decides_laid}
use Rattle.questions.proofs.ask.subscribe.Goals as goal

pub returns-in-Some : goal.returns-in-Some
unfolding allowed subscribe_says decided_by keeps question_cause first client wish wish_of
returns-in-Some c = grind (arith, decides_laid (subscribe c.args.earlier c.args.client.now c.args.topic.now c.args.qos) _ c.deciding_on.ensures)

pub returns-in-Some-2 : goal.returns-in-Some-2
unfolding refusal subscribe_says decided_by keeps question_cause first client wish wish_of
returns-in-Some-2 c = grind (arith, decides_laid (subscribe c.args.earlier c.args.client.now c.args.topic.now c.args.qos) _ c.deciding_on.ensures)

pub returns-in-None : goal.returns-in-None
unfolding refusal subscribe_says decided_by keeps question_cause first client wish wish_of
returns-in-None c = grind (arith, decides_laid (subscribe c.args.earlier c.args.client.now c.args.topic.now c.args.qos) _ c.deciding_on.ensures)
