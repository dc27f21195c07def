-- The level ends before the first `/` of what is left of the text. Assumes nothing.
use Prim.Native.Nat.{◌-◌}
use mathlib.Core.Path.{◌≡◌, ◌∙◌}
use borrow.Author.Rules.{rules, part_to_end}
use borrow.Author.Tests.{tests}
use lib.ListN.{length, take, drop}
use Rattle.std.proofs.lemmas.List.{drop_min}
use Rattle.std.proofs.lemmas.Iterator.{IsFirst-from_position, YieldsList-from_slice, index_from_first}
use Rattle.topic.specs.Topic.{slash}
use Rattle.topic.specs.Walk.{first_level, level_at}
use Rattle.topic.proofs.Places.{first_part, first_none, first_slash, first_other}
use Rattle.topic.proofs.level_at.Goals as goal

pub returns : goal.returns
unfolding level_at
returns c =
    let rest : take (length c.args.text.now - c.min.result) (drop c.min.result c.args.text.now) ≡ drop c.args.at c.args.text.now =
    rw (part_to_end, c.min.ensures) (drop_min c.args.at c.args.text.now) in
    let found = IsFirst-from_position _ _ c.position.result (λ x. x ≡ slash) (λ x. x ≡ slash → ⊥) c.position.ensures.ran (YieldsList-from_slice (drop c.args.at c.args.text.now) (c.iter.ensures.rest ∙ rest)) (λ x q k. search (rules, tests)) (λ x q k. search (rules, tests)) in
    let ends = index_from_first (λ s. length (first_level s)) (λ x. x ≡ slash) (λ x. x ≡ slash → ⊥) first_none first_slash first_other _ _ found in
    rw (c.unwrap_or-end.ensures, rest, ← ends) (first_part _)
