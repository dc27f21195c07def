-- `store::opening::clear_store` meets its contract: each stretch is zero after those before it. Assumes nothing.
use Prim.Native.Nat.{ℕ, ◌≤◌}
use mathlib.Core.Path.{◌≡◌, ap, ◌∙◌}
use mathlib.Core.List.{◌++◌}
use native.Mathlib.Omega.{arith}
use lib.Seq.{length-take-le}
use lib.ListN.{length, replicate, drop}
use Rattle.store.specs.Store.{store_length}
use Rattle.store.specs.Layout.{filters_at, eqs_at, notes_at}
use Rattle.store.proofs.RowLaws.{zeros_on, zeros_end}
use Rattle.store.proofs.opening.clear_store.Goals as goal

pub returns : goal.returns
unfolding store_length notes_at eqs_at filters_at
returns c =
    let s = c.args.store.now in
    let at-1 = c.filters_at-filters_at.result in
    let at-2 = c.eqs_at-eqs_at.result in
    let at-3 = c.notes_at-notes_at.result in
    let o : (at-1 ≤ at-2) × (at-2 ≤ at-3) × (at-3 ≤ length s) = (omega arith, omega arith, omega arith) in
    let front : c.fill.new.self ++ drop at-1 s ≡ replicate at-1 0 ++ drop at-1 s =
    rw (c.fill.ensures.after (λ y e. e), length-take-le at-1 s (omega (arith, o))) in
    let filters = zeros_on at-1 at-2 s o.0 (omega (arith, o)) front (c.fill-2.ensures.after (λ y e. e)) in
    let eqs = zeros_on at-2 at-3 s o.1 o.2 filters (c.fill-3.ensures.after (λ y e. e)) in
    zeros_end at-3 s o.2 eqs (c.fill-4.ensures.after (λ y e. e)) ∙ ap (λ (k : ℕ). replicate k 0) c.requires
