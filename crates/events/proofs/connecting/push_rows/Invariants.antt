-- `events::connecting::push_rows` meets its contract. The outer loop's invariant: the rows of the lines that are left, pushed from here, come to
-- what all rows come to from the start, and no text left is over 256 (`Left`); `rule` counts the lines passed. The inner loop's: so do the rows
-- of the line's topics that are left, and of the lines behind it. Assumes nothing.
use Prim.Native.Nat.{suc, ◌+◌}
use mathlib.Core.Path.{◌≡◌}
use mathlib.Core.List.{◌++◌}
use lib.ListN.{length}
use Rattle.std.specs.Option.{option_copied}
use Rattle.json_text.specs.Access.{places_from}
use Rattle.json_text.specs.Lines.{lines}
use Rattle.events.proofs.PlaceWalk.{placed, lined}
use Rattle.events.proofs.ConnectLaws.{Left}
use Rattle.events.proofs.connecting.push_rows.Given as goal

abbrev pub invariant-loop-p : goal.invariant-loop-p
invariant-loop-p l =
    (goal.iterator-loop-p).can_next l.p-iterator
    × (goal.iterator-loop-p).is_finite l.p-iterator
    × Left l.table l.who.session l.who.id.now (option_copied l.who.name) l.rules l.earlier l.fn.part
    (placed l.who.id.now (option_copied l.who.name) l.rule l.line (places_from l.p-iterator.line.now l.p-iterator.next)
    ++ lined l.who.id.now (option_copied l.who.name) (suc l.rule) (lines l.line-iterator.rest.now)) l.used l.part

abbrev pub invariant-loop-line : goal.invariant-loop-line
invariant-loop-line l =
    (goal.iterator-loop-line).can_next l.line-iterator
    × (goal.iterator-loop-line).is_finite l.line-iterator
    × (Left l.table l.who.session l.who.id.now (option_copied l.who.name) l.rules l.earlier l.fn.part
    (lined l.who.id.now (option_copied l.who.name) l.rule (lines l.line-iterator.rest.now)) l.used l.part
    × (l.rule + length (lines l.line-iterator.rest.now) ≡ length (lines l.rules)))
