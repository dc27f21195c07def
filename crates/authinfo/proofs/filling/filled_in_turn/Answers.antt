-- A user name of 64 bytes fills a topic of 256 to at most 1,489 bytes, so the text between fits. Assumes nothing.
use mathlib.Core.Path.{sym, ap, ◌∙◌}
use native.Mathlib.Omega.{arith}
use lib.ListN.{length, replicate}
use lib.Seq.{length-take-le}
use Rattle.text.specs.Text.{replace}
use Rattle.text.proofs.Laws.{too_long_told}
use Rattle.authinfo.specs.Given.{given}
use Rattle.authinfo.specs.ClientRule.{username}
use Rattle.authinfo.proofs.FillingLaws.{put_room, put_front, between_fits, name_fits, absent, named_part, filled_plain, filled_nobody, filled_named}
use Rattle.authinfo.proofs.filling.filled_in_turn.Goals as goal

pub returns-then-not-contains : goal.returns-then-not-contains
returns-then-not-contains c =
    rw (← c.client.view_is)
    (c.with_id.ensures
    ∙ filled_plain c.args.asks.now.topic.now c.client.inside.id.now (given c.client.inside.name c.client.inside.names.now) c.args.eq c.args.configured.now c.contains-held.ensures (sym c.contains.ensures ∙ c.if-not-contains.true))

pub returns-in_default : goal.returns-in_default
returns-in_default c =
    rw (← c.client.view_is)
    (sym (filled_nobody c.args.asks.now.topic.now c.client.inside.id.now (given c.client.inside.name c.client.inside.names.now) c.args.eq c.args.configured.now (sym c.contains.ensures ∙ c.if-not-contains.false) (absent c.client.inside.names.now c.in_default.is)))

pub slice_bounds-between-end : goal.slice_bounds-between-end
slice_bounds-between-end c =
    put_room (replace username c.front-name.result.now c.args.configured.now) (replicate 1489 0) c.replace.ensures.value c.replace.ensures.buffer_after c.in-Some-replace.is

pub slice_bounds-with_id-end : goal.slice_bounds-with_id-end
slice_bounds-with_id-end c =
    sym (length-take-le c.in-Some-replace.m _ (put_room (replace username c.front-name.result.now c.args.configured.now) (replicate 1489 0) c.replace.ensures.value c.replace.ensures.buffer_after c.in-Some-replace.is))

pub returns-in-None : goal.returns-in-None
returns-in-None c =
    let far = too_long_told (replace username c.front-name.result.now c.args.configured.now) 1489 c.replace.ensures.value c.in-None.is in
    let fits = name_fits c.client.inside.names.now (rw (← c.client.view_is) at c.args.asks.now.name_fits) c.in-Some.is in
    let near = between_fits c.front-name.result.now c.args.configured.now (omega (arith, ap length c.front-name.ensures)) c.requires in
    absurd (omega arith)

pub returns-in-Some-replace : goal.returns-in-Some-replace
returns-in-Some-replace c =
    let front = put_front (replace username c.front-name.result.now c.args.configured.now) (replicate 1489 0) c.replace.ensures.value c.replace.ensures.buffer_after c.in-Some-replace.is in
    rw (← c.client.view_is)
    (c.with_id-in-Some-replace.ensures
    ∙ filled_named c.args.asks.now.topic.now c.client.inside.id.now (given c.client.inside.name c.client.inside.names.now) c.args.eq c.args.configured.now c.contains-held.ensures (sym c.contains.ensures ∙ c.if-not-contains.false) (named_part c.client.inside.names.now c.in-Some.is c.front-name.ensures) front)
