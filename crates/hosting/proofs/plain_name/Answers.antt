-- `hosting::plain_name` meets its contract: by its two tests. Assumes nothing.
use mathlib.Core.Path.{sym, ap, ◌∙◌}
use mathlib.Core.Bool.{Bool, ◌&&◌, not}
use borrow.Author.Rules.{rules}
use borrow.Author.Tests.{tests}
use Rattle.std.proofs.lemmas.Iterator.{YieldsList-from_slice}
use Rattle.std.proofs.lemmas.Iterator.Search.{all_from_yields_List}
use Rattle.hosting.specs.Hosting.{is_special, no_special, plain_name}
use Rattle.hosting.proofs.HostingLaws.{special_all, starts_dollar}
use Rattle.hosting.proofs.plain_name.Goals as goal

pub returns-then-not-starts_with : goal.returns-then-not-starts_with
unfolding plain_name
returns-then-not-starts_with c =
    let name = c.args.name.now in
    let dollar = sym (starts_dollar name) ∙ sym c.starts_with.ensures.value ∙ c.if-not-starts_with.true in
    all_from_yields_List (λ b. not (is_special b)) _ _ c.all.result c.all.ensures.ran (YieldsList-from_slice name c.iter.ensures.rest) (λ x b q k. search (rules, tests))
    ∙ special_all name ∙ sym (ap (λ (b : Bool). not b && no_special name) dollar)
