-- The parts of a connect line, read at their places, are the elements'. Assumes nothing.
use Rattle.std.specs.Prelude.{None}
use mathlib.Core.Path.{refl, ap, ◌∙◌}
use Rattle.lines.specs.Said.{reply_said}
use Rattle.lines.specs.Reading.{elements}
use Rattle.lines.proofs.ClientLaws.{array_stands, array_roomy}
use Rattle.lines.proofs.ElementLaws.{zeros, is_more, eighth}
use Rattle.lines.proofs.AskerLaws.{asker_told, asker_bad}
use Rattle.lines.proofs.AskingLaws.{no_call, connect_more, connect_bad, connect_any, connect_asks}
use Rattle.lines.proofs.asking.ask_connect.Goals as goal

pub returns-then-is_some : goal.returns-then-is_some
returns-then-is_some c =
    let line = c.args.array.now.line.now in
    let es = elements line in
    let is = array_stands line c.args.array.now.is_array in
    let at = c.args.array.now.placed in
    no_call c.args.store.now {r = None} refl (connect_more es (is_more (eighth line es is c.args.array.now.at at) c.is_some.ensures c.if-is_some.true))

pub returns-in_err-a : goal.returns-in_err-a
returns-in_err-a c =
    let line = c.args.array.now.line.now in
    let es = elements line in
    let is = array_stands line c.args.array.now.is_array in
    let at = c.args.array.now.placed in
    no_call c.args.store.now c.from_residual.ensures (connect_bad es (asker_bad line es is c.args.array.now.at at zeros (array_roomy line c.args.array.now.is_array) (rw c.new-texts.ensures at c.asker_at.ensures.value) c.in_err-a.was))

pub returns-then-is_none : goal.returns-then-is_none
returns-then-is_none c =
    let line = c.args.array.now.line.now in
    let es = elements line in
    let is = array_stands line c.args.array.now.is_array in
    let at = c.args.array.now.placed in
    no_call c.args.store.now {r = None} refl
    (connect_any es (asker_told line es is c.args.array.now.at at zeros (array_roomy line c.args.array.now.is_array) (rw c.new-texts.ensures at c.asker_at.ensures.value) (rw c.new-texts.ensures at c.asker_at.ensures.ids_after) (rw c.new-texts.ensures at c.asker_at.ensures.names_after) (rw c.new-texts.ensures at c.asker_at.ensures.passwords_after) (rw c.new-texts.ensures at c.asker_at.ensures.addresses_after) c.in_ok-a.was) c.is_none.ensures c.if-is_none.true)

pub returns : goal.returns
returns c =
    let line = c.args.array.now.line.now in
    let es = elements line in
    let is = array_stands line c.args.array.now.is_array in
    let at = c.args.array.now.placed in
    c.connect_said.ensures
    ∙ (ap reply_said c.connect.ensures
    ∙ connect_asks es (asker_told line es is c.args.array.now.at at zeros (array_roomy line c.args.array.now.is_array) (rw c.new-texts.ensures at c.asker_at.ensures.value) (rw c.new-texts.ensures at c.asker_at.ensures.ids_after) (rw c.new-texts.ensures at c.asker_at.ensures.names_after) (rw c.new-texts.ensures at c.asker_at.ensures.passwords_after) (rw c.new-texts.ensures at c.asker_at.ensures.addresses_after) c.in_ok-a.was)
    c.args.store.now (is_more (eighth line es is c.args.array.now.at at) c.is_some.ensures c.if-is_some.false) c.is_none.ensures c.if-is_none.false c.client.ensures)
