-- Each return has what was read of the elements. Assumes nothing.
use Rattle.std.specs.Prelude.{None, Some}
use mathlib.Core.Path.{refl, sym, ap, ◌∙◌}
use Rattle.lines.specs.Reading.{elements}
use Rattle.lines.proofs.ClientLaws.{array_stands, array_roomy}
use Rattle.lines.proofs.ElementLaws.{zeros, is_more, number_read, text_read, text_unread, second, third, fourth}
use Rattle.lines.proofs.HappeningLaws.{no_call, event_call, disconnected_more, disconnected_bad, disconnected_no_id, disconnected_is}
use Rattle.lines.proofs.happening.on_disconnected.Goals as goal

pub returns-then-is_some : goal.returns-then-is_some
returns-then-is_some c =
    let line = c.args.array.now.line.now in
    let es = elements line in
    let is = array_stands line c.args.array.now.is_array in
    let at = c.args.array.now.placed in
    let whole = no_call c.args.store.now {r = None} refl (disconnected_more es (is_more (fourth line es is c.args.array.now.at at) c.is_some.ensures c.if-is_some.true)) in
    record { value = whole.0; store_after = whole.1 }

pub returns-in_err-session : goal.returns-in_err-session
returns-in_err-session c =
    let line = c.args.array.now.line.now in
    let es = elements line in
    let is = array_stands line c.args.array.now.is_array in
    let at = c.args.array.now.placed in
    let whole = no_call c.args.store.now c.from_residual.ensures (disconnected_bad es (number_read line es is 1 (second line es is c.args.array.now.at at) c.number_at.ensures c.in_err-session.was)) in
    record { value = whole.0; store_after = whole.1 }

pub returns-in_err-id : goal.returns-in_err-id
returns-in_err-id c =
    let line = c.args.array.now.line.now in
    let es = elements line in
    let is = array_stands line c.args.array.now.is_array in
    let at = c.args.array.now.placed in
    let whole = no_call c.args.store.now c.from_residual-in_err-id.ensures (disconnected_no_id es (text_unread line es is 2 (third line es is c.args.array.now.at at) zeros (array_roomy line c.args.array.now.is_array) c.text_at.ensures.value (sym c.ok.ensures.value ∙ c.in_err-id.was))) in
    record { value = whole.0; store_after = whole.1 }

pub returns : goal.returns
returns c =
    let line = c.args.array.now.line.now in
    let es = elements line in
    let is = array_stands line c.args.array.now.is_array in
    let at = c.args.array.now.placed in
    let whole = event_call c.args.store.now _ c.event_said.ensures c.disconnected.ensures.result_value c.disconnected.ensures.store_after
    (disconnected_is es (is_more (fourth line es is c.args.array.now.at at) c.is_some.ensures c.if-is_some.false) (number_read line es is 1 (second line es is c.args.array.now.at at) c.number_at.ensures c.in_ok-session.was)
    (text_read line es is 2 (third line es is c.args.array.now.at at) zeros (array_roomy line c.args.array.now.is_array) c.text_at.ensures.value c.text_at.ensures.buffer_after (sym c.ok.ensures.value ∙ c.in_ok-id.was) ∙ ap Some (sym c.front.ensures))) in
    record { value = whole.0; store_after = whole.1 }
