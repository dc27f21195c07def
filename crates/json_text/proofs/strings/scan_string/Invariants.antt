-- The loop's invariant: what is left of the string comes to what the whole comes to, with the bytes decoded so far, which are no more than
-- those passed. The measure is what is left of the line. Assumes nothing.
use mathlib.Core.Path.{◌≡◌}
use Prim.Native.Nat.{◌-◌, ◌≤◌}
use lib.ListN.{length, drop}
use Rattle.json_text.proofs.StringLaws.{scanned_to}
use Rattle.json_text.specs.Strings.{string_from, string_at}
use Rattle.json_text.specs.Access.{scanned}
use Rattle.json_text.proofs.strings.scan_string.Given as goal

abbrev pub invariant-loop-i : goal.invariant-loop-i
invariant-loop-i l =
    (l.i ≤ length l.line) × (l.n ≤ l.i) × (scanned l.at (string_at l.line l.at) ≡ scanned_to l.i l.n (string_from 0 (drop l.i l.line)))

abbrev pub decreases-loop-i : goal.decreases-loop-i
decreases-loop-i l =
    length l.line - l.i
