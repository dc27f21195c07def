-- The loop's invariant: what is left of the order, run on the store as it is, gives what the whole order gives on the store as it was, and
-- the answers to what is left come after those that are there (`Running`). Assumes nothing.
use Rattle.reorder.proofs.Runs.{Running}
use Rattle.reorder.proofs.running.run.Given as goal

abbrev pub invariant-loop-event : goal.invariant-loop-event
invariant-loop-event l =
    Running l.order l.initial.store l.store l.event-items l.event-index
