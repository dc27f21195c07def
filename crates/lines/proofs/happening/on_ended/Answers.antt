-- Each return has what was read of the elements. Assumes nothing.
use Rattle.std.specs.Prelude.{None}
use mathlib.Core.Path.{refl}
use Rattle.lines.specs.Reading.{elements}
use Rattle.lines.proofs.ClientLaws.{array_stands}
use Rattle.lines.proofs.ElementLaws.{is_more, number_read, second, third}
use Rattle.lines.proofs.HappeningLaws.{no_call, event_call, ended_more, ended_bad, ended_is}
use Rattle.lines.proofs.happening.on_ended.Goals as goal

pub returns-then-is_some : goal.returns-then-is_some
returns-then-is_some c =
    let line = c.args.array.now.line.now in
    let es = elements line in
    let is = array_stands line c.args.array.now.is_array in
    let at = c.args.array.now.placed in
    let whole = no_call c.args.store.now {r = None} refl (ended_more es (is_more (third line es is c.args.array.now.at at) c.is_some.ensures c.if-is_some.true)) in
    record { value = whole.0; store_after = whole.1 }

pub returns-in_err-session : goal.returns-in_err-session
returns-in_err-session c =
    let line = c.args.array.now.line.now in
    let es = elements line in
    let is = array_stands line c.args.array.now.is_array in
    let at = c.args.array.now.placed in
    let whole = no_call c.args.store.now c.from_residual.ensures (ended_bad es (number_read line es is 1 (second line es is c.args.array.now.at at) c.number_at.ensures c.in_err-session.was)) in
    record { value = whole.0; store_after = whole.1 }

pub returns : goal.returns
returns c =
    let line = c.args.array.now.line.now in
    let es = elements line in
    let is = array_stands line c.args.array.now.is_array in
    let at = c.args.array.now.placed in
    let whole = event_call c.args.store.now _ c.event_said.ensures c.ended.ensures.result_value c.ended.ensures.store_after
    (ended_is es (is_more (third line es is c.args.array.now.at at) c.is_some.ensures c.if-is_some.false) (number_read line es is 1 (second line es is c.args.array.now.at at) c.number_at.ensures c.in_ok-session.was)) in
    record { value = whole.0; store_after = whole.1 }
