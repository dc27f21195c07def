-- `questions::ask::connect` meets its contract: what decides is asked last, and its answer is told. Assumes nothing.
use native.Mathlib.Omega.{arith}
use Rattle.rule.specs.Refusals.{first}
use Rattle.questions.specs.Question.{connect, question_cause}
use Rattle.questions.specs.Decision.{client, wish, keeps, refusal}
use Rattle.questions.specs.Parts.{wish_of}
use Rattle.questions.specs.Answers.{connect_says}
use Rattle.questions.proofs.AskLaws.{allowed, decided_by, decides_laid}
use Rattle.questions.proofs.ask.connect.Goals as goal

pub returns-in-Some : goal.returns-in-Some
unfolding allowed connect_says decided_by keeps question_cause first client wish wish_of
returns-in-Some c = grind (arith, decides_laid (connect c.args.earlier c.args.client.now) _ c.deciding_on.ensures)

pub returns-in-Some-2 : goal.returns-in-Some-2
unfolding refusal connect_says decided_by keeps question_cause first client wish wish_of
returns-in-Some-2 c = grind (arith, decides_laid (connect c.args.earlier c.args.client.now) _ c.deciding_on.ensures)

pub returns-in-None : goal.returns-in-None
unfolding refusal connect_says decided_by keeps question_cause first client wish wish_of
returns-in-None c = grind (arith, decides_laid (connect c.args.earlier c.args.client.now) _ c.deciding_on.ensures)
