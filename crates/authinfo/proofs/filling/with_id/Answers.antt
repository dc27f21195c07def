-- Each return has the test that led there; a text that fits 256 bytes stands at the front of the buffer. Assumes nothing.
use mathlib.Core.Path.{sym, ◌∙◌}
use lib.ListN.{replicate}
use lib.Seq.{length-take-le}
use Rattle.text.specs.Text.{replace}
use Rattle.text.proofs.Laws.{too_long_told}
use Rattle.authinfo.specs.ClientRule.{clientid}
use Rattle.authinfo.proofs.FillingLaws.{taken_long, put_room, put_front, not_held, id_held, taken_same}
use Rattle.authinfo.proofs.filling.with_id.Goals as goal

pub returns-then-not-held : goal.returns-then-not-held
returns-then-not-held c =
    c.taken.ensures ∙ sym (taken_same c.args.topic.now c.args.eq (not_held c.args.id.now c.args.before.now c.if-not-held.true))

pub slice_bounds-filled-end : goal.slice_bounds-filled-end
slice_bounds-filled-end c =
    put_room (replace clientid c.args.id.now c.args.before.now) (replicate 256 0) c.replace.ensures.value c.replace.ensures.buffer_after c.in-Some.is

pub slice_bounds-taken-end : goal.slice_bounds-taken-end
slice_bounds-taken-end c =
    sym (length-take-le c.in-Some.n _ (put_room (replace clientid c.args.id.now c.args.before.now) (replicate 256 0) c.replace.ensures.value c.replace.ensures.buffer_after c.in-Some.is))

pub returns-in-None : goal.returns-in-None
returns-in-None c =
    let long = too_long_told (replace clientid c.args.id.now c.args.before.now) 256 c.replace.ensures.value c.in-None.is in
    sym (taken_same c.args.topic.now c.args.eq (id_held c.args.id.now c.args.before.now c.if-not-held.false)
    ∙ taken_long c.args.topic.now (replace clientid c.args.id.now c.args.before.now) c.args.eq long)

pub returns-in-Some : goal.returns-in-Some
returns-in-Some c =
    let front = put_front (replace clientid c.args.id.now c.args.before.now) (replicate 256 0) c.replace.ensures.value c.replace.ensures.buffer_after c.in-Some.is in
    c.taken-in-Some.ensures
    ∙ taken_same c.args.topic.now c.args.eq (front ∙ sym (id_held c.args.id.now c.args.before.now c.if-not-held.false))
