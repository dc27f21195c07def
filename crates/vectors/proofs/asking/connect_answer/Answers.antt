-- The client of the line, with the protocol that is always given. Assumes nothing.
use Rattle.std.proofs.Common.{ap}
use Rattle.questions.specs.Question.{connect}
use Rattle.questions.specs.Decision.{ask}
use Rattle.mqtt_acl.specs.Answers.{packed}
use Rattle.vectors.specs.Fields.{field, lent, digit}
use Rattle.vectors.specs.Asking.{with_protocol, connect_of}
use Rattle.vectors.proofs.asking.connect_answer.Goals as goal

pub returns : goal.returns
unfolding connect_of
returns c =
    let line = c.args.line.now in
    rw (c.mqtt_acl_connect.ensures, c.from.ensures, c.digit.ensures, c.field.ensures, c.digit-2.ensures, c.at-client.ensures.protocol)
    (ap (λ k. packed (ask (connect (digit (field 4 line)) (with_protocol (digit (lent (field 9 line))) k)) c.args.store.now)) (c.at-client.ensures.seen digit))
