-- The parts of a line that asks on a topic, read at their places, are the elements'. Assumes nothing.
use Rattle.std.specs.Prelude.{None, Some}
use mathlib.Core.Path.{refl, sym, ap, ◌∙◌}
use Rattle.lines.specs.Reading.{elements}
use Rattle.lines.proofs.ClientLaws.{array_stands, array_roomy}
use Rattle.lines.proofs.ElementLaws.{zeros, is_more, eighth, ninth, text_read, text_unread}
use Rattle.lines.proofs.AskerLaws.{asker_told, asker_bad}
use Rattle.lines.proofs.AskingLaws.{no_call, topic_more, topic_unasked, topic_absent, topic_asks}
use Rattle.lines.proofs.asking.ask_topic.Goals as goal

pub returns-then-is_some : goal.returns-then-is_some
returns-then-is_some c =
    let line = c.args.array.now.line.now in
    let es = elements line in
    let is = array_stands line c.args.array.now.is_array in
    let at = c.args.array.now.placed in
    no_call c.args.store.now {r = None} refl (topic_more c.args.publishing es (is_more (ninth line es is c.args.array.now.at at) c.is_some.ensures c.if-is_some.true))

pub returns-in_err-a : goal.returns-in_err-a
returns-in_err-a c =
    let line = c.args.array.now.line.now in
    let es = elements line in
    let is = array_stands line c.args.array.now.is_array in
    let at = c.args.array.now.placed in
    no_call c.args.store.now c.from_residual.ensures (topic_unasked c.args.publishing es (asker_bad line es is c.args.array.now.at at zeros (array_roomy line c.args.array.now.is_array) (rw c.new-texts.ensures at c.asker_at.ensures.value) c.in_err-a.was))

pub returns-in_err-topic : goal.returns-in_err-topic
returns-in_err-topic c =
    let line = c.args.array.now.line.now in
    let es = elements line in
    let is = array_stands line c.args.array.now.is_array in
    let at = c.args.array.now.placed in
    no_call c.args.store.now c.from_residual-in_err-topic.ensures
    (topic_absent c.args.publishing es
    (text_unread line es is 7 (eighth line es is c.args.array.now.at at) zeros (array_roomy line c.args.array.now.is_array) c.text_at.ensures.value (sym c.ok.ensures.value ∙ c.in_err-topic.was)))

pub returns : goal.returns
returns c =
    let line = c.args.array.now.line.now in
    let es = elements line in
    let is = array_stands line c.args.array.now.is_array in
    let at = c.args.array.now.placed in
    c.topic_said.ensures
    ∙ topic_asks c.args.publishing es c.args.store.now (is_more (ninth line es is c.args.array.now.at at) c.is_some.ensures c.if-is_some.false)
    (asker_told line es is c.args.array.now.at at zeros (array_roomy line c.args.array.now.is_array) (rw c.new-texts.ensures at c.asker_at.ensures.value) (rw c.new-texts.ensures at c.asker_at.ensures.ids_after) (rw c.new-texts.ensures at c.asker_at.ensures.names_after) (rw c.new-texts.ensures at c.asker_at.ensures.passwords_after) (rw c.new-texts.ensures at c.asker_at.ensures.addresses_after) c.in_ok-a.was)
    (text_read line es is 7 (eighth line es is c.args.array.now.at at) zeros (array_roomy line c.args.array.now.is_array) c.text_at.ensures.value c.text_at.ensures.buffer_after (sym c.ok.ensures.value ∙ c.in_ok-topic.was)
    ∙ ap Some (sym c.front.ensures))
    c.client.ensures
