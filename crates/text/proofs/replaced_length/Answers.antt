-- The first occurrence of a front is that of what is left; without one the bytes stay, up to the room. Assumes nothing.
use Prim.Native.Nat.{◌+◌}
use native.Mathlib.Omega.{arith}
use borrow.Author.Rules.{part_to_end}
use lib.ListN.{length, length-drop}
use Rattle.text.proofs.Laws.{length_first, length_over, length_within, fitted_fits, fitted_not}
use Rattle.text.proofs.replaced_length.Goals as goal

pub returns-then-left-new : goal.returns-then-left-new
returns-then-left-new c =
    let first = length_first c.args.pattern.now c.args.new.now c.loop-kept.rest.now _ c.in-Some.kept (rw c.front.ensures at c.in-Some.ensures) in
    fitted_not _ _ (omega (arith, first.3))

pub loop-kept-smaller : goal.loop-kept-smaller
loop-kept-smaller c =
    let first = length_first c.args.pattern.now c.args.new.now c.loop-kept.rest.now _ c.in-Some.kept (rw c.front.ensures at c.in-Some.ensures) in
    rw part_to_end (omega (arith, first.0, first.2, length-drop (c.in-Some.kept + length c.args.pattern.now) c.loop-kept.rest.now))

pub loop-kept-preserved : goal.loop-kept-preserved
loop-kept-preserved c =
    let first = length_first c.args.pattern.now c.args.new.now c.loop-kept.rest.now _ c.in-Some.kept (rw c.front.ensures at c.in-Some.ensures) in
    rw part_to_end (omega arith, omega (arith, length-drop (c.in-Some.kept + length c.args.pattern.now) c.loop-kept.rest.now), omega (arith, first.3))

pub returns-then-left-rest : goal.returns-then-left-rest
returns-then-left-rest c =
    let over = length_over c.args.pattern.now c.args.new.now c.loop-kept.rest.now _ c.loop-kept.left (rw c.front.ensures at c.in_default.ensures) (omega arith) (omega arith) in
    fitted_not _ _ (omega arith)

pub returns : goal.returns
returns c =
    let all = length_within c.args.pattern.now c.args.new.now c.loop-kept.rest.now _ c.loop-kept.left (rw c.front.ensures at c.in_default.ensures) (omega arith) (omega arith) in
    fitted_fits _ _ _ (omega arith) (omega arith)
