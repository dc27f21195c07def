-- The loop's invariant: the last of the members from `i` on with the name, behind others of which `found` was the last, is that of the
-- object. The measure is what is left of the line. Assumes nothing.
use mathlib.Core.Path.{◌≡◌}
use Prim.Native.Nat.{◌-◌}
use lib.ListN.{length}
use Rattle.json_text.specs.Access.{member_named}
use Rattle.json_text.proofs.ValueLaws.{members_from}
use Rattle.json_text.proofs.AccessSteps.{last_in}
use Rattle.json_text.proofs.access.member.Given as goal

abbrev pub invariant-loop-i : goal.invariant-loop-i
invariant-loop-i l =
    last_in l.wanted l.found (members_from 7 l.line l.i) ≡ member_named l.wanted l.line l.at

abbrev pub decreases-loop-i : goal.decreases-loop-i
decreases-loop-i l =
    length l.line - l.i
