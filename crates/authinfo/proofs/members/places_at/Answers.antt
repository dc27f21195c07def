-- The loop's invariant: of each name, the last of the members from `i` on, behind others whose last are in `found`, is that of the object.
-- The measure is what is left of the line. Assumes nothing.
use Rattle.std.specs.Prelude.{Some}
use mathlib.Core.Path.{sym, ap, ◌∙◌}
use native.Mathlib.Omega.{arith}
use mathlib.Core.Bool.{true}
use Rattle.json_text.proofs.ScanLaws.{comma_next}
use Rattle.json_text.proofs.ValueLaws.{members_past, item_next}
use Rattle.json_text.proofs.AccessSteps.{last_in, named_from, named_behind, named_on}
use Rattle.authinfo.proofs.MemberLaws.{last_places, places_from, places_by, places_on, places_behind, on_member, behind_member}
use Rattle.authinfo.proofs.members.places_at.Goals as goal

pub returns-in_default : goal.returns-in_default
unfolding places_from named_from
returns-in_default c =
    sym (places_by c.args.line.now c.args.at (sym c.first_member.ensures ∙ c.in_default.is))

pub loop-i-init : goal.loop-i-init
unfolding places_from named_from last_places
loop-i-init c =
    sym (places_by c.args.line.now c.args.at (sym c.first_member.ensures ∙ c.in-Some.is))

pub returns-in_default-item : goal.returns-in_default-item
unfolding places_on named_on
returns-in_default-item c =
    on_member c.args.line.now c.args.at _ c.loop-i.invariant c.loop-i-test.true c.with_member-found.ensures c.item.ensures c.in_default-item.is

pub returns-in-Some-Close : goal.returns-in-Some-Close
unfolding places_behind named_behind
returns-in-Some-Close c =
    behind_member c.args.line.now c.args.at _ _ (on_member c.args.line.now c.args.at _ c.loop-i.invariant c.loop-i-test.true c.with_member-found.ensures c.item.ensures c.in-Some-item.is) c.separator.ensures (c.in-Some-Close.is ∙ ap Some c.in-Some-Close.field-0-is)

pub loop-i-smaller : goal.loop-i-smaller
loop-i-smaller c =
    omega (
      arith,
      item_next 7 c.args.line.now true 0 c.loop-i.i (sym c.item.ensures ∙ c.in-Some-item.is),
      comma_next c.args.line.now c.in-Some-item.c.at 0x7d (sym c.separator.ensures ∙ (c.in-Some-Comma.is ∙ ap Some c.in-Some-Comma.field-0-is)),
    )

pub loop-i-preserved : goal.loop-i-preserved
unfolding places_behind named_behind last_places
loop-i-preserved c =
    behind_member c.args.line.now c.args.at _ _ (on_member c.args.line.now c.args.at _ c.loop-i.invariant c.loop-i-test.true c.with_member-found.ensures c.item.ensures c.in-Some-item.is) c.separator.ensures (c.in-Some-Comma.is ∙ ap Some c.in-Some-Comma.field-0-is)

pub returns-in-None : goal.returns-in-None
unfolding places_behind named_behind
returns-in-None c =
    behind_member c.args.line.now c.args.at _ _ (on_member c.args.line.now c.args.at _ c.loop-i.invariant c.loop-i-test.true c.with_member-found.ensures c.item.ensures c.in-Some-item.is) c.separator.ensures c.in-None.is

pub returns : goal.returns
unfolding last_places last_in
returns c =
    ap (last_places c.loop-i.found) (sym (members_past 7 c.args.line.now c.loop-i.i c.loop-i-test.false)) ∙ c.loop-i.invariant
