-- The word's bytes stand there. Assumes nothing.
use native.Mathlib.Omega.{arith}
use mathlib.Core.Path.{sym, ◌∙◌}
use borrow.Author.Rules.{part_to_end}
use lib.ListN.{drop, length-drop}
use Rattle.text.proofs.Laws.{begins-length}
use Rattle.authinfo.proofs.filling.stands_last.Goals as goal

pub dollar_from-requires : goal.dollar_from-requires
dollar_from-requires c =
    let stands = sym (rw part_to_end at c.begins.ensures) ∙ c.if-begins.true in
    omega (arith, begins-length c.args.word.now (drop c.args.at c.args.text.now) stands, length-drop c.args.at c.args.text.now)
