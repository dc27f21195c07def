-- The loop's invariant: of each name, the last of the members from `i` on, behind others whose last are in `found`, is that of the object.
-- The measure is what is left of the line. Assumes nothing.
use mathlib.Core.Path.{◌≡◌}
use Prim.Native.Nat.{◌-◌}
use lib.ListN.{length}
use Rattle.json_text.proofs.ValueLaws.{members_from}
use Rattle.authinfo.specs.Places.{places_at}
use Rattle.authinfo.proofs.MemberLaws.{last_places}
use Rattle.authinfo.proofs.members.places_at.Given as goal

abbrev pub invariant-loop-i : goal.invariant-loop-i
invariant-loop-i l =
    last_places l.found (members_from 7 l.line l.i) ≡ places_at l.line l.at

abbrev pub decreases-loop-i : goal.decreases-loop-i
decreases-loop-i l =
    length l.line - l.i
