-- Each return has what was read of the elements. Assumes nothing.
use Rattle.std.specs.Prelude.{None, Some}
use mathlib.Core.Path.{refl, sym, ap, ◌∙◌}
use Rattle.lines.specs.Reading.{elements}
use Rattle.lines.proofs.ClientLaws.{array_stands, array_roomy}
use Rattle.lines.proofs.ElementLaws.{zeros, is_more, number_read, text_read, text_unread, given_read, given_unread, second, third, fourth, fifth}
use Rattle.lines.proofs.HappeningLaws.{no_call, event_call, connected_more, connected_bad, connected_no_id, connected_no_name, connected_is}
use Rattle.lines.proofs.happening.on_connected.Goals as goal

pub returns-then-is_some : goal.returns-then-is_some
returns-then-is_some c =
    let line = c.args.array.now.line.now in
    let es = elements line in
    let is = array_stands line c.args.array.now.is_array in
    let at = c.args.array.now.placed in
    let whole = no_call c.args.store.now {r = None} refl (connected_more es (is_more (fifth line es is c.args.array.now.at at) c.is_some.ensures c.if-is_some.true)) in
    record { value = whole.0; store_after = whole.1 }

pub returns-in_err-session : goal.returns-in_err-session
returns-in_err-session c =
    let line = c.args.array.now.line.now in
    let es = elements line in
    let is = array_stands line c.args.array.now.is_array in
    let at = c.args.array.now.placed in
    let whole = no_call c.args.store.now c.from_residual.ensures (connected_bad es (number_read line es is 1 (second line es is c.args.array.now.at at) c.number_at.ensures c.in_err-session.was)) in
    record { value = whole.0; store_after = whole.1 }

pub returns-in_err-id : goal.returns-in_err-id
returns-in_err-id c =
    let line = c.args.array.now.line.now in
    let es = elements line in
    let is = array_stands line c.args.array.now.is_array in
    let at = c.args.array.now.placed in
    let whole = no_call c.args.store.now c.from_residual-in_err-id.ensures (connected_no_id es (text_unread line es is 2 (third line es is c.args.array.now.at at) zeros (array_roomy line c.args.array.now.is_array) c.text_at.ensures.value (sym c.ok.ensures.value ∙ c.in_err-id.was))) in
    record { value = whole.0; store_after = whole.1 }

pub returns-in_err-name : goal.returns-in_err-name
returns-in_err-name c =
    let line = c.args.array.now.line.now in
    let es = elements line in
    let is = array_stands line c.args.array.now.is_array in
    let at = c.args.array.now.placed in
    let whole = no_call c.args.store.now c.from_residual-in_err-name.ensures (connected_no_name es (given_unread line es is 3 (fourth line es is c.args.array.now.at at) zeros (array_roomy line c.args.array.now.is_array) c.given_at.ensures.value c.in_err-name.was)) in
    record { value = whole.0; store_after = whole.1 }

pub returns : goal.returns
returns c =
    let line = c.args.array.now.line.now in
    let es = elements line in
    let is = array_stands line c.args.array.now.is_array in
    let at = c.args.array.now.placed in
    let whole = event_call c.args.store.now _ c.event_said.ensures c.connected-answer.ensures.result_value c.connected-answer.ensures.store_after
    (connected_is es (is_more (fifth line es is c.args.array.now.at at) c.is_some.ensures c.if-is_some.false) (number_read line es is 1 (second line es is c.args.array.now.at at) c.number_at.ensures c.in_ok-session.was)
    (text_read line es is 2 (third line es is c.args.array.now.at at) zeros (array_roomy line c.args.array.now.is_array) c.text_at.ensures.value c.text_at.ensures.buffer_after (sym c.ok.ensures.value ∙ c.in_ok-id.was) ∙ ap Some (sym c.front.ensures))
    (given_read line es is 3 (fourth line es is c.args.array.now.at at) zeros (array_roomy line c.args.array.now.is_array) c.given_at.ensures.value c.given_at.ensures.buffer_after c.in_ok-name.was ∙ ap Some (sym c.given_in.ensures))) in
    record { value = whole.0; store_after = whole.1 }
