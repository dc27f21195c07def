-- `events::connecting::put_back` meets its contract: the three stretches one after the other. Assumes nothing.
use native.Mathlib.Omega.{arith}
use Rattle.events.proofs.PushLaws.{back_short, put_parts}
use Rattle.events.proofs.connecting.put_back.Goals as goal

pub returns-then-store-end : goal.returns-then-store-end
returns-then-store-end c =
    back_short c.args.shape c.args.filters c.args.eqs c.args.notes c.args.store.now (omega (arith, c.length-end.ensures))

pub returns : goal.returns
returns c =
    put_parts c.args.shape c.args.filters c.args.eqs c.args.notes c.args.store.now c.filters_at-filters_at.ensures c.eqs_at-eqs_at.ensures c.notes_at-notes_at.ensures c.length-end.ensures c.if-store-end.false
    c.restore.ensures c.restore-2.ensures c.restore-3.ensures
