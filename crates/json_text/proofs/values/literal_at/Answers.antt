-- Each return has the tests of `word_at` that led there. Assumes nothing.
use mathlib.Core.Path.{refl, sym, ap, ◌∙◌}
use native.Mathlib.Omega.{arith}
use borrow.Author.Rules.{part_to_end}
use Rattle.json_text.specs.Access.{literal_is, literal_of}
use Rattle.json_text.proofs.ScanLaws.{word_by, word_past}
use Rattle.json_text.proofs.values.literal_at.Goals as goal

pub returns-then-line-at : goal.returns-then-line-at
unfolding literal_of
returns-then-line-at c =
    sym (ap literal_of (word_past c.args.line.now c.args.at (omega arith)))

pub returns-then-opens_null : goal.returns-then-opens_null
unfolding literal_of literal_is
returns-then-opens_null c =
    sym (ap literal_of (word_by c.args.line.now c.args.at (sym (rw part_to_end at c.opens_null.ensures) ∙ c.if-opens_null.true) refl refl))

pub returns-then-opens_true : goal.returns-then-opens_true
unfolding literal_of literal_is
returns-then-opens_true c =
    sym (ap literal_of (word_by c.args.line.now c.args.at (sym (rw part_to_end at c.opens_null.ensures) ∙ c.if-opens_null.false) (sym (rw part_to_end at c.opens_true.ensures) ∙ c.if-opens_true.true) refl))

pub returns-then-opens_false : goal.returns-then-opens_false
unfolding literal_of literal_is
returns-then-opens_false c =
    sym (ap literal_of (word_by c.args.line.now c.args.at (sym (rw part_to_end at c.opens_null.ensures) ∙ c.if-opens_null.false) (sym (rw part_to_end at c.opens_true.ensures) ∙ c.if-opens_true.false) (sym (rw part_to_end at c.opens_false.ensures) ∙ c.if-opens_false.true)))

pub returns : goal.returns
unfolding literal_of literal_is
returns c =
    sym (ap literal_of (word_by c.args.line.now c.args.at (sym (rw part_to_end at c.opens_null.ensures) ∙ c.if-opens_null.false) (sym (rw part_to_end at c.opens_true.ensures) ∙ c.if-opens_true.false) (sym (rw part_to_end at c.opens_false.ensures) ∙ c.if-opens_false.false)))
