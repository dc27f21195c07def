-- The loop's invariant: the last of the members from `i` on with the name, behind others of which `found` was the last, is that of the
-- object. The measure is what is left of the line. Assumes nothing.
use Rattle.std.specs.Prelude.{ℕ, Option, Some, None}
use mathlib.Core.Path.{◌≡◌, sym, ap, ◌∙◌}
use native.Mathlib.Omega.{arith}
use mathlib.Core.Bool.{Bool, true, cond}
use Rattle.json_text.specs.Access.{string_is, member_value}
use Rattle.json_text.proofs.ScanLaws.{comma_next}
use Rattle.json_text.proofs.ValueLaws.{members_past, item_next}
use Rattle.json_text.proofs.AccessSteps.{last_in, named_from, named_by, named_behind, named_on, named_step}
use Rattle.json_text.proofs.access.member.Goals as goal
use Rattle.json_text.proofs.access.member.Goals.{After-item, then-string_is, else-string_is}

-- the value found so far, this member's included
found_here : (c : After-item) → c.if-string_is.found ≡ cond (string_is c.args.line.now c.loop-i.i c.args.wanted.now) (member_value c.args.line.now c.loop-i.i) c.loop-i.found
found_here c =
    elim c.if-string_is.branch [
      | then-string_is w ↦ w.found-is ∙ (w.member_value-found.ensures ∙ ap (λ (b : Bool). cond b (member_value c.args.line.now c.loop-i.i) c.loop-i.found) (sym (sym c.string_is.ensures ∙ w.if-string_is.true)))
      | else-string_is w ↦ w.found-is ∙ ap (λ (b : Bool). cond b (member_value c.args.line.now c.loop-i.i) c.loop-i.found) (sym (sym c.string_is.ensures ∙ w.if-string_is.false))
    ]

pub returns-in_err-first : goal.returns-in_err-first
unfolding named_from
returns-in_err-first c =
    c.from_residual.ensures ∙ sym (named_by c.args.wanted.now c.args.line.now c.args.at (sym c.first_member.ensures ∙ c.in_err-first.was))

pub loop-i-init : goal.loop-i-init
unfolding named_from
loop-i-init c =
    sym (named_by c.args.wanted.now c.args.line.now c.args.at (sym c.first_member.ensures ∙ c.in_ok-first.was))

pub returns-in_err-behind : goal.returns-in_err-behind
unfolding named_on
returns-in_err-behind c =
    c.from_residual-in_err-behind.ensures
    ∙ ap (λ (f : Option ℕ). named_on c.args.wanted.now c.args.line.now f None) (found_here (goal.at.returns-in_err-behind c).After-item)
    ∙ (sym (named_step c.args.wanted.now c.args.line.now c.loop-i.found c.loop-i.i c.loop-i-test.true (sym c.item.ensures ∙ c.in_err-behind.was)) ∙ c.loop-i.invariant)

pub returns-in-Close : goal.returns-in-Close
unfolding named_behind named_on
returns-in-Close c =
    ap (named_behind c.args.wanted.now c.args.line.now c.if-string_is.found) (sym (c.in_ok-separator.was ∙ ap Some c.in-Close.is) ∙ c.separator.ensures)
    ∙ (ap (λ (f : Option ℕ). named_on c.args.wanted.now c.args.line.now f (Some c.in_ok-behind.behind)) (found_here (goal.at.returns-in-Close c).After-item)
    ∙ (sym (named_step c.args.wanted.now c.args.line.now c.loop-i.found c.loop-i.i c.loop-i-test.true (sym c.item.ensures ∙ c.in_ok-behind.was)) ∙ c.loop-i.invariant))

pub loop-i-smaller : goal.loop-i-smaller
loop-i-smaller c =
    omega (
      arith,
      item_next 7 c.args.line.now true 0 c.loop-i.i (sym c.item.ensures ∙ c.in_ok-behind.was),
      comma_next c.args.line.now c.in_ok-behind.behind.at 0x7d (sym c.separator.ensures ∙ (c.in_ok-separator.was ∙ ap Some c.in-Comma.is)),
    )

pub loop-i-preserved : goal.loop-i-preserved
unfolding named_behind named_on
loop-i-preserved c =
    ap (named_behind c.args.wanted.now c.args.line.now c.if-string_is.found) (sym (c.in_ok-separator.was ∙ ap Some c.in-Comma.is) ∙ c.separator.ensures)
    ∙ (ap (λ (f : Option ℕ). named_on c.args.wanted.now c.args.line.now f (Some c.in_ok-behind.behind)) (found_here (goal.at.loop-i-preserved c).After-item)
    ∙ (sym (named_step c.args.wanted.now c.args.line.now c.loop-i.found c.loop-i.i c.loop-i-test.true (sym c.item.ensures ∙ c.in_ok-behind.was)) ∙ c.loop-i.invariant))

pub returns-in_err-separator : goal.returns-in_err-separator
unfolding named_behind named_on
returns-in_err-separator c =
    c.from_residual-in_err-separator.ensures
    ∙ ap (named_behind c.args.wanted.now c.args.line.now c.if-string_is.found) (sym c.in_err-separator.was ∙ c.separator.ensures)
    ∙ (ap (λ (f : Option ℕ). named_on c.args.wanted.now c.args.line.now f (Some c.in_ok-behind.behind)) (found_here (goal.at.returns-in_err-separator c).After-item)
    ∙ (sym (named_step c.args.wanted.now c.args.line.now c.loop-i.found c.loop-i.i c.loop-i-test.true (sym c.item.ensures ∙ c.in_ok-behind.was)) ∙ c.loop-i.invariant))

pub returns : goal.returns
unfolding last_in
returns c =
    ap (last_in c.args.wanted.now c.loop-i.found) (sym (members_past 7 c.args.line.now c.loop-i.i c.loop-i-test.false)) ∙ c.loop-i.invariant
