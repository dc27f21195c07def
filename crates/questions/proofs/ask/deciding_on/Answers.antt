-- The parts that the shape tells of lie in the store and are what it means. Assumes nothing.
use native.Mathlib.Omega.{arith}
use Rattle.questions.proofs.AskLaws.{within, text_rules, decides_on}
use Rattle.questions.proofs.ask.deciding_on.Goals as goal

pub overflow_add-text_end : goal.overflow_add-text_end
overflow_add-text_end c =
    let parts = within c.args.store.now c.requires in
    omega (arith, parts.text)

pub overflow_mul-filters_end : goal.overflow_mul-filters_end
overflow_mul-filters_end c =
    let parts = within c.args.store.now c.requires in
    omega (arith, parts.filters)

pub overflow_add-filters_end : goal.overflow_add-filters_end
overflow_add-filters_end c =
    let parts = within c.args.store.now c.requires in
    omega (arith, parts.filters, c.filters_at-filters_at.ensures)

pub overflow_mul-eqs_end : goal.overflow_mul-eqs_end
overflow_mul-eqs_end c =
    let parts = within c.args.store.now c.requires in
    omega (arith, parts.eqs)

pub overflow_add-eqs_end : goal.overflow_add-eqs_end
overflow_add-eqs_end c =
    let parts = within c.args.store.now c.requires in
    omega (arith, parts.eqs, c.eqs_at-eqs_at.ensures)

pub slice_bounds-deciding_in-end : goal.slice_bounds-deciding_in-end
slice_bounds-deciding_in-end c =
    let parts = within c.args.store.now c.requires in
    omega (arith, parts.text)

pub slice_bounds-deciding_in-end-2 : goal.slice_bounds-deciding_in-end-2
slice_bounds-deciding_in-end-2 c =
    let parts = within c.args.store.now c.requires in
    omega (arith, parts.filters, c.filters_at-filters_at.ensures)

pub slice_bounds-deciding_in-end-3 : goal.slice_bounds-deciding_in-end-3
slice_bounds-deciding_in-end-3 c =
    let parts = within c.args.store.now c.requires in
    omega (arith, parts.eqs, c.eqs_at-eqs_at.ensures)

pub deciding_in-requires : goal.deciding_in-requires
deciding_in-requires c =
    λ k. text_rules c.args.store.now c.requires

pub returns : goal.returns
returns c v h =
    decides_on c.args.store.now c.requires h _ _ c.filters_at-filters_at.ensures c.eqs_at-eqs_at.ensures c.deciding_in.ensures
