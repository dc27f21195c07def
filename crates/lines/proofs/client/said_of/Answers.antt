-- Both lines are arrays, and the first is a client, or it is refused; else the question is answered. Assumes nothing.
use Rattle.std.specs.Prelude.{None}
use mathlib.Core.Path.{◌≡◌, refl, sym, ◌∙◌}
use mathlib.Core.Bool.{true}
use Rattle.lines.specs.Reading.{elements, is_array_line}
use Rattle.lines.proofs.ElementLaws.{zeros}
use Rattle.lines.proofs.ClientLaws.{array_line, array_roomy, no_header, bad_header, no_line, client_asks, header_told, header_bad}
use Rattle.lines.proofs.client.said_of.Goals.{then-not-is_one-via-then-not-is_one, then-not-is_one-via-else-not-is_one+then-not-is_one-2}
use Rattle.lines.proofs.client.said_of.Goals as goal

pub returns-then-not-is_one : goal.returns-then-not-is_one
returns-then-not-is_one c =
    elim c.then-not-is_one.branch [
      | then-not-is_one-via-then-not-is_one w ↦
          no_header c.args.header.now c.args.rules.now c.args.line.now {r = None} refl (sym c.is_one.ensures ∙ w.if-not-is_one.true)
      | then-not-is_one-via-else-not-is_one+then-not-is_one-2 w ↦
          no_line c.args.header.now c.args.rules.now c.args.line.now {r = None} refl (sym w.is_one-else-not-is_one.ensures ∙ w.if-not-is_one-2.true)
    ]

pub returns-in_err-h : goal.returns-in_err-h
returns-in_err-h c =
    let is : is_array_line c.args.header.now ≡ true = sym c.is_one.ensures ∙ c.if-not-is_one.false in
    let header = array_line c.args.header.now is in
    bad_header c.args.header.now c.args.rules.now c.args.line.now c.from_residual.ensures header
    (header_bad c.args.header.now (elements c.args.header.now) header.value zeros (array_roomy c.args.header.now is) c.of.result.at (rw c.of.ensures at c.of.result.placed) (rw c.of.ensures at c.client_at.ensures.value) c.in_err-h.was)

pub returns : goal.returns
returns c =
    let is : is_array_line c.args.header.now ≡ true = sym c.is_one.ensures ∙ c.if-not-is_one.false in
    let header = array_line c.args.header.now is in
    let line = array_line c.args.line.now (sym c.is_one-else-not-is_one.ensures ∙ c.if-not-is_one-2.false) in
    client_asks c.args.header.now c.args.rules.now c.args.line.now header line
    (header_told c.args.header.now (elements c.args.header.now) header.value zeros (array_roomy c.args.header.now is) c.of.result.at (rw c.of.ensures at c.of.result.placed) (rw c.of.ensures at c.client_at.ensures.value) (rw c.of.ensures at c.client_at.ensures.ids_after) (rw c.of.ensures at c.client_at.ensures.names_after) c.in_ok-h.was cc)
    (rw c.of-2.ensures at c.answer_question.ensures)
