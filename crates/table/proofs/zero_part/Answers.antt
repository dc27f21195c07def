-- `table::zero_part` meets its contract: it is so of the bytes that the fold has passed. Assumes nothing.
use mathlib.Core.Path.{◌≡◌, refl, sym, ap, ◌∙◌}
use mathlib.Core.Bool.{true, ◌&&◌}
use lib.Dec.{eqb}
use borrow.Author.Rules.{rules}
use borrow.Author.Tests.{tests}
use Rattle.std.proofs.iter.Yields.{fronts}
use Rattle.std.proofs.lemmas.Fn.{fold_over}
use Rattle.std.proofs.lemmas.Iterator.{YieldsList-from_slice}
use Rattle.table.specs.Bytes.{zeros}
use Rattle.table.proofs.ByteLaws.{zeros-snoc}
use Rattle.table.proofs.zero_part.Goals as goal

pub returns : goal.returns
unfolding zeros
returns c =
    fold_over fronts (λ x. x.now) _ (λ ys a. a ≡ zeros ys) _ (λ ys a x b f' e k. let told : b ≡ (a && eqb x.now 0) = search (rules, tests) in (told ∙ ap (λ t. t && eqb x.now 0) e ∙ sym (zeros-snoc ys x.now), refl)) c.iter.result c.args.part.now true c.fold.result (YieldsList-from_slice {s = c.iter.result} c.args.part.now c.iter.ensures.rest).runs refl c.fold.ensures.ran
