-- Each return has what was read of the elements. Assumes nothing.
use Rattle.std.specs.Prelude.{None, Some}
use mathlib.Core.Path.{refl, sym, ap, ◌∙◌}
use Rattle.lines.proofs.ElementLaws.{zeros, is_more, number_read, truth_read, text_read, text_unread, second, third, fourth, fifth, sixth}
use Rattle.lines.specs.Reading.{elements}
use Rattle.lines.proofs.ClientLaws.{array_stands, array_roomy, unasked, asked, publish_more, publish_bad, publish_no_retain, publish_no_disconnect, publish_no_topic, publish-is}
use Rattle.lines.proofs.client.ask_publish.Goals as goal

pub returns-then-is_some : goal.returns-then-is_some
returns-then-is_some c =
    let line = c.args.array.now.line.now in
    let es = elements line in
    let is = array_stands line c.args.array.now.is_array in
    let at = c.args.array.now.placed in
    unasked _ _ {r = None} refl (publish_more es (is_more (sixth line es is c.args.array.now.at at) c.is_some.ensures c.if-is_some.true))

pub returns-in_err-qos : goal.returns-in_err-qos
returns-in_err-qos c =
    let line = c.args.array.now.line.now in
    let es = elements line in
    let is = array_stands line c.args.array.now.is_array in
    let at = c.args.array.now.placed in
    unasked _ _ c.from_residual.ensures (publish_bad es (number_read line es is 1 (second line es is c.args.array.now.at at) c.number_at.ensures c.in_err-qos.was))

pub returns-in_err-retain : goal.returns-in_err-retain
returns-in_err-retain c =
    let line = c.args.array.now.line.now in
    let es = elements line in
    let is = array_stands line c.args.array.now.is_array in
    let at = c.args.array.now.placed in
    unasked _ _ c.from_residual-in_err-retain.ensures (publish_no_retain es (truth_read line es is 2 (third line es is c.args.array.now.at at) c.truth_at.ensures c.in_err-retain.was))

pub returns-in_err-disconnect : goal.returns-in_err-disconnect
returns-in_err-disconnect c =
    let line = c.args.array.now.line.now in
    let es = elements line in
    let is = array_stands line c.args.array.now.is_array in
    let at = c.args.array.now.placed in
    unasked _ _ c.from_residual-in_err-disconnect.ensures (publish_no_disconnect es (truth_read line es is 3 (fourth line es is c.args.array.now.at at) c.truth_at-2.ensures c.in_err-disconnect.was))

pub returns-in_err-topic : goal.returns-in_err-topic
returns-in_err-topic c =
    let line = c.args.array.now.line.now in
    let es = elements line in
    let is = array_stands line c.args.array.now.is_array in
    let at = c.args.array.now.placed in
    unasked _ _ c.from_residual-in_err-topic.ensures (publish_no_topic es (text_unread line es is 4 (fifth line es is c.args.array.now.at at) zeros (array_roomy line c.args.array.now.is_array) c.text_at.ensures.value (sym c.ok.ensures.value ∙ c.in_err-topic.was)))

pub returns : goal.returns
returns c =
    let line = c.args.array.now.line.now in
    let es = elements line in
    let is = array_stands line c.args.array.now.is_array in
    let at = c.args.array.now.placed in
    asked _ _ c.publish_said.ensures c.client_publish-answer.ensures
    (publish-is es (is_more (sixth line es is c.args.array.now.at at) c.is_some.ensures c.if-is_some.false) (number_read line es is 1 (second line es is c.args.array.now.at at) c.number_at.ensures c.in_ok-qos.was)
    (truth_read line es is 2 (third line es is c.args.array.now.at at) c.truth_at.ensures c.in_ok-retain.was) (truth_read line es is 3 (fourth line es is c.args.array.now.at at) c.truth_at-2.ensures c.in_ok-disconnect.was)
    (text_read line es is 4 (fifth line es is c.args.array.now.at at) zeros (array_roomy line c.args.array.now.is_array) c.text_at.ensures.value c.text_at.ensures.buffer_after (sym c.ok.ensures.value ∙ c.in_ok-topic.was) ∙ ap Some (sym c.front.ensures)))
