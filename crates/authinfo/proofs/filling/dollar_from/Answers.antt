-- The first `$` of what is left of the text. Assumes nothing.
use Prim.Native.Nat.{◌-◌}
use native.Mathlib.Omega.{arith}
use mathlib.Core.Path.{◌≡◌, ◌∙◌}
use borrow.Author.Rules.{rules, part_to_end}
use borrow.Author.Tests.{tests}
use lib.ListN.{length, take, drop, length-drop}
use Rattle.std.proofs.lemmas.Iterator.{IsFirst-from_position, YieldsList-from_slice, index_from_first}
use Rattle.authinfo.specs.Filling.{dollar, before_dollar, dollar_from}
use Rattle.authinfo.proofs.WordLaws.{dollar_none, dollar_here, dollar_onward}
use Rattle.authinfo.proofs.filling.dollar_from.Goals as goal

pub returns-in-Some : goal.returns-in-Some
unfolding dollar_from
returns-in-Some c =
    let rest : take (length c.args.text.now - c.args.at) (drop c.args.at c.args.text.now) ≡ drop c.args.at c.args.text.now = rw part_to_end in
    let found = IsFirst-from_position _ _ c.position.result (λ x. x ≡ dollar) (λ x. x ≡ dollar → ⊥) c.position.ensures.ran (YieldsList-from_slice (drop c.args.at c.args.text.now) (c.iter.ensures.rest ∙ rest)) (λ x q k. search (rules, tests)) (λ x q k. search (rules, tests)) in
    let ends = index_from_first before_dollar (λ x. x ≡ dollar) (λ x. x ≡ dollar → ⊥) dollar_none dollar_here dollar_onward _ _ found in
    let is = rw c.in-Some.is at ends in
    omega (arith, is)

pub returns-in-None : goal.returns-in-None
unfolding dollar_from
returns-in-None c =
    let rest : take (length c.args.text.now - c.args.at) (drop c.args.at c.args.text.now) ≡ drop c.args.at c.args.text.now = rw part_to_end in
    let found = IsFirst-from_position _ _ c.position.result (λ x. x ≡ dollar) (λ x. x ≡ dollar → ⊥) c.position.ensures.ran (YieldsList-from_slice (drop c.args.at c.args.text.now) (c.iter.ensures.rest ∙ rest)) (λ x q k. search (rules, tests)) (λ x q k. search (rules, tests)) in
    let ends = index_from_first before_dollar (λ x. x ≡ dollar) (λ x. x ≡ dollar → ⊥) dollar_none dollar_here dollar_onward _ _ found in
    let is = rw c.in-None.is at ends in
    omega (arith, is, length-drop c.args.at c.args.text.now)
