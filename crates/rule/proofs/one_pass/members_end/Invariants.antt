-- The loop's invariant: if members stand from `i` on up to a place, then the object's do, and their places come behind those found so far.
-- The measure is what is left of the line. Assumes nothing.
use Prim.Native.Nat.{ℕ, ◌-◌}
use lib.ListN.{length}
use Rattle.json_text.specs.Json.{Members}
use Rattle.rule.specs.Members.{MembersTo, places_in}
use Rattle.rule.proofs.OnePassLaws.{MembersFrom}
use Rattle.rule.proofs.one_pass.members_end.Given as goal

abbrev pub invariant-loop-i : goal.invariant-loop-i
invariant-loop-i l =
    (rest : Members) (end : ℕ) → MembersFrom 6 l.line l.i rest end → MembersTo l.line l.at (places_in rest l.found) end

abbrev pub decreases-loop-i : goal.decreases-loop-i
decreases-loop-i l =
    length l.line - l.i
