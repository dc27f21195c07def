-- Each member is read where the one before it ended. Assumes nothing.
use Rattle.std.proofs.Common.{rules}
use Rattle.std.specs.Prelude.{Some}
use native.Mathlib.Omega.{arith}
use mathlib.Core.Path.{sym, ap, subst, ◌∙◌}
use Rattle.json_text.proofs.ScanLaws.{at_within}
use Rattle.json_text.proofs.PlainLaws.{Plain, plain_string}
use Rattle.rule.specs.Members.{places_in, noted, MembersTo}
use Rattle.json_text.specs.Access.{last_named}
use Rattle.rule.specs.declared.MemberPlaces.{MemberPlaces}
use Rattle.rule.proofs.OnePassLaws.{member_read, member_forward, last_member, next_member, first_member}
use Rattle.rule.proofs.one_pass.members_end.Goals as goal

pub overflow_add-at : goal.overflow_add-at
overflow_add-at c = omega (arith, at_within c.args.line.now _ 0x7b (omega arith) (sym c.is_at.ensures ∙ c.if-not-is_at.false))

pub loop-i-init : goal.loop-i-init
loop-i-init c =
    λ rest end m.
    subst (λ (x : MemberPlaces). MembersTo c.args.line.now c.args.at (places_in rest x) end) (search rules)
    (first_member c.args.line.now c.args.at (sym c.is_at.ensures ∙ c.if-not-is_at.false) c.skip_blanks-i.ensures m)

pub returns-in-Close : goal.returns-in-Close
unfolding places_in noted last_named
returns-in-Close c =
    let named : Plain c.args.line.now c.loop-i.i c.in_ok-end.end = plain_string c.args.line.now c.loop-i.i (sym c.in_ok-end.ensures) in
    let here = member_read c.args.line.now c.loop-i.i named (sym c.in_ok-p.ensures) c.in_ok-behind.ensures in
    subst (λ (x : MemberPlaces). MembersTo c.args.line.now c.args.at x c.in-Close.next) (sym c.with_member-found.ensures)
    (c.loop-i.invariant _ _ (last_member c.args.line.now here (sym c.in_ok-next.ensures ∙ ap Some c.in-Close.is)))

pub loop-i-smaller : goal.loop-i-smaller
loop-i-smaller c =
    let named : Plain c.args.line.now c.loop-i.i c.in_ok-end.end = plain_string c.args.line.now c.loop-i.i (sym c.in_ok-end.ensures) in
    let here = member_read c.args.line.now c.loop-i.i named (sym c.in_ok-p.ensures) c.in_ok-behind.ensures in
    omega (arith, member_forward c.args.line.now here (sym c.in_ok-next.ensures ∙ ap Some c.in-Comma.is))

pub loop-i-preserved : goal.loop-i-preserved
unfolding places_in noted last_named
loop-i-preserved c =
    let named : Plain c.args.line.now c.loop-i.i c.in_ok-end.end = plain_string c.args.line.now c.loop-i.i (sym c.in_ok-end.ensures) in
    let here = member_read c.args.line.now c.loop-i.i named (sym c.in_ok-p.ensures) c.in_ok-behind.ensures in
    λ rest end f.
    subst (λ (x : MemberPlaces). MembersTo c.args.line.now c.args.at (places_in rest x) end) (sym c.with_member-found.ensures)
    (c.loop-i.invariant _ end (next_member c.args.line.now here (sym c.in_ok-next.ensures ∙ ap Some c.in-Comma.is) f))
