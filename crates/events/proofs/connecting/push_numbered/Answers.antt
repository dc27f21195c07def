-- `events::connecting::push_numbered` meets its contract. Assumes nothing.
use Rattle.events.proofs.PushLaws.{pushes_numbered}
use Rattle.events.proofs.connecting.push_numbered.Goals as goal

pub returns : goal.returns
returns c =
    let whole = pushes_numbered c.args.n c.args.text.now c.args.used c.args.part.now c.put_numbered.ensures (c.push.ensures.value, c.push.ensures.table_after) in record { value = whole.0; part_after = whole.1 }
