-- The loop's invariant: what the elements left come to, behind those that came to `takes`, is what all come to. Assumes nothing.
use mathlib.Core.Path.{◌≡◌}
use Rattle.json_text.specs.Access.{places_from}
use Rattle.authinfo.specs.Places.{levels_at, levels_from}
use Rattle.authinfo.proofs.reading.qos_list.Given as goal

abbrev pub invariant-loop-p : goal.invariant-loop-p
invariant-loop-p l =
    (goal.iterator-loop-p).can_next l.p-iterator
    × (goal.iterator-loop-p).is_finite l.p-iterator
    × (levels_at l.line l.asked l.takes (places_from l.p-iterator.line.now l.p-iterator.next) ≡ levels_from l.line l.asked l.at)
