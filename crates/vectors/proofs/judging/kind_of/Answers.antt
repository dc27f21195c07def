-- The kind is the first of all whose letter is the word. Assumes nothing.
use Rattle.std.proofs.Common.{rules, ◌∙◌}
use borrow.Author.Tests.{tests}
use Rattle.std.proofs.lemmas.Iterator.{YieldsList-from_slice}
use Rattle.std.proofs.lemmas.Iterator.Search.{find_from_yields_List}
use Rattle.text.specs.Text.{same}
use Rattle.vectors.specs.Judging.{all, letter, kind_of}
use Rattle.vectors.specs.declared.judging.Kind.{Kind}
use Rattle.vectors.proofs.judging.kind_of.Goals as goal

pub returns : goal.returns
unfolding kind_of
returns c =
    c.copied.ensures
    ∙ find_from_yields_List (λ (k : Kind). same c.args.word.now (letter k)) _ _ c.find.result c.find.ensures.ran (YieldsList-from_slice all (search rules)) (λ x b q k. (search (rules, tests), search (rules, tests)))
