-- `events::connecting::push_filter` meets its contract. Assumes nothing.
use mathlib.Core.Path.{sym, ◌∙◌}
use Rattle.events.proofs.PushLaws.{pushes_none, no_filter_bytes, pushes_filter}
use Rattle.events.proofs.connecting.push_filter.Goals as goal

pub returns-then-not-valid_filter : goal.returns-then-not-valid_filter
returns-then-not-valid_filter c =
    let invalid = sym c.valid_filter.ensures ∙ c.if-not-valid_filter.true in
    let whole = pushes_none c.args.used c.args.part.now (no_filter_bytes c.args.rule c.args.text.now c.args.id.now invalid) in record { value = whole.0; part_after = whole.1 }

pub returns : goal.returns
returns c =
    let valid = sym c.valid_filter.ensures ∙ c.if-not-valid_filter.false in
    let whole = pushes_filter c.args.rule c.args.text.now c.args.id.now c.args.used c.args.part.now valid c.put_filter.ensures (c.push.ensures.value, c.push.ensures.table_after) in record { value = whole.0; part_after = whole.1 }
