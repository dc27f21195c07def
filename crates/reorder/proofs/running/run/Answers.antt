-- Each event of the run is one more of the order. Assumes nothing.
use Rattle.std.proofs.Common.{◌<◌, arith, rules, tests, refl, sym, ◌∙◌}
use Rattle.std.proofs.lemmas.List.{same_lists, get_or-map, length-map}
use Rattle.reorder.specs.declared.running.Answered.{Answered}
use Rattle.reorder.proofs.Runs.{unanswered, running_none, running_more}
use Rattle.reorder.proofs.running.run.Goals as goal

pub loop-event-init : goal.loop-event-init
loop-event-init c =
    let made = c.map-run.ensures.items in
    running_none _ _ _ (same_lists _ _ (simp length-map (made.long ∙ sym c.told-order)) (λ k d h.
    let below : k < 15 = omega (arith, simp length-map at h, made.long) in
    let one = made.at k d unanswered below in
    get_or-map (λ (a : Answered). a.number) c.map-run.result k unanswered d (omega (arith, made.long)) ∙ search (rules, tests)))

pub loop-event-preserved : goal.loop-event-preserved
loop-event-preserved c =
    running_more c.loop-event.invariant _ (omega (arith, c.told-order)) refl c.listed.ensures c.apply-event.ensures.store_after c.apply-event.ensures.value
