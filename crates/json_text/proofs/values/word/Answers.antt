-- The cursor behind the word. Assumes nothing.
use Rattle.std.specs.Prelude.{Some, ◌+◌}
use mathlib.Core.Path.{sym, ◌∙◌}
use native.Mathlib.Omega.{arith}
use Rattle.json_text.proofs.ScanLaws.{word_next}
use Rattle.json_text.proofs.StepLaws.{literal_told, word_stepped}
use Rattle.json_text.proofs.values.word.Goals as goal

pub overflow_add-result : goal.overflow_add-result
overflow_add-result c =
    let fits = word_next c.args.line.now c.args.c.at (literal_told c.args.line.now c.args.c.at (sym c.literal_at.ensures ∙ c.in_ok-word.was)) in
    omega arith

pub returns : goal.returns
returns c =
    (λ i. Some (record { at = c.args.c.at + c.word_size.ensures i; longest = c.args.c.longest }))
    ∙ word_stepped c.args.c.longest c.args.line.now c.args.c.at (sym c.literal_at.ensures ∙ c.in_ok-word.was)

pub returns-in_err-word : goal.returns-in_err-word
returns-in_err-word c =
    c.from_residual.ensures
    ∙ word_stepped c.args.c.longest c.args.line.now c.args.c.at (sym c.literal_at.ensures ∙ c.in_err-word.was)
