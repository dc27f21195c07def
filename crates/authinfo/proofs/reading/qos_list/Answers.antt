-- The loop's invariant: what the elements left come to, behind those that came to `takes`, is what all come to. Assumes nothing.
use mathlib.Core.Path.{◌≡◌, sym, ap, ◌∙◌}
use mathlib.Core.Bool.{false}
use Rattle.json_text.specs.Access.{first_item, places_from}
use Rattle.authinfo.specs.Places.{levels_at, levels_from}
use Rattle.authinfo.proofs.ReadingLaws.{level_number, level_other, levels_next, levels_bad}
use Rattle.authinfo.proofs.reading.qos_list.Goals as goal

pub loop-p-init : goal.loop-p-init
unfolding levels_from
loop-p-init c =
    let lines : c.into_iter-p-iterator.result.line.now ≡ c.args.line.now = cc (c.into_iter-p-iterator.ensures.into_iter_gives, c.new-p-items.ensures.0) in
    let firsts : c.into_iter-p-iterator.result.next ≡ first_item 0x5b 0x5d c.args.line.now c.args.at = cc (c.into_iter-p-iterator.ensures.into_iter_gives, c.new-p-items.ensures.1) in
    (tt, tt, λ i. levels_at c.args.line.now c.args.asked false (places_from (lines i) (firsts i)))

pub returns-in_err-takes : goal.returns-in_err-takes
returns-in_err-takes c =
    c.from_residual.ensures
    ∙ (sym (levels_bad c.args.line.now c.args.asked c.loop-p.takes c.in-Some.p _ (level_number c.args.line.now c.args.asked c.loop-p.takes c.in-Some.p (sym c.number_value.ensures ∙ c.in-Some-number_value.is) ∙ (sym c.with_level.ensures ∙ c.in_err-takes.was)))
    ∙ (ap (levels_at c.args.line.now c.args.asked c.loop-p.takes) (sym c.in-Some.ensures.steps) ∙ c.loop-p.invariant.2))

pub loop-p-preserved : goal.loop-p-preserved
loop-p-preserved c =
    (tt, tt, sym (levels_next c.args.line.now c.args.asked c.loop-p.takes c.in-Some.p _ (level_other c.args.line.now c.args.asked c.loop-p.takes c.in-Some.p (sym c.number_value.ensures ∙ c.in_default.is))) ∙ (ap (levels_at c.args.line.now c.args.asked c.loop-p.takes) (sym c.in-Some.ensures.steps) ∙ c.loop-p.invariant.2))

pub loop-p-preserved-in-Some-number_value : goal.loop-p-preserved-in-Some-number_value
loop-p-preserved-in-Some-number_value c =
    let level = level_number c.args.line.now c.args.asked c.loop-p.takes c.in-Some.p (sym c.number_value.ensures ∙ c.in-Some-number_value.is) ∙ (sym c.with_level.ensures ∙ c.in_ok-takes.was) in
    (tt, tt, sym (levels_next c.args.line.now c.args.asked c.loop-p.takes c.in-Some.p _ level) ∙ (ap (levels_at c.args.line.now c.args.asked c.loop-p.takes) (sym c.in-Some.ensures.steps) ∙ c.loop-p.invariant.2))

pub returns : goal.returns
unfolding levels_at
returns c =
    ap (levels_at c.args.line.now c.args.asked c.loop-p.takes) (sym c.in-None.ensures.steps.0) ∙ c.loop-p.invariant.2
