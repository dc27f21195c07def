-- Each test in its order; at last the kind of the value that comes first. Assumes nothing.
use mathlib.Core.Path.{◌≡◌, sym, ◌∙◌}
use mathlib.Core.Bool.{true, true≢false}
use borrow.Author.Tests.{lt-leb}
use lib.ListN.{length}
use Rattle.json_text.specs.Json.{line_value}
use Rattle.json_text.specs.Access.{is_document}
use Rattle.lines.proofs.ClientLaws.{long_array, no_document, array-first, other_first}
use Rattle.lines.proofs.array.Array.is_one.Goals.{then-line-le-LINE, else-line-le-LINE}
use Rattle.lines.proofs.array.Array.is_one.Goals as goal

pub returns-in-Array : goal.returns-in-Array
returns-in-Array c =
    elim c.if-line-le-LINE.branch [
      | then-line-le-LINE w ↦
          let is : is_document (line_value c.args.line.now) ≡ true = sym w.is_document.ensures ∙ (sym w.value-is ∙ c.if-is_document.true) in
          array-first c.args.line.now w.if-line-le-LINE.true is (sym c.first_kind.ensures ∙ c.in-Array.is)
      | else-line-le-LINE w ↦ absurd (true≢false (sym c.if-is_document.true ∙ (w.value-is ∙ lt-leb (length c.args.line.now) 2048 w.if-line-le-LINE.false)))
    ]

pub returns-in_default : goal.returns-in_default
returns-in_default c =
    elim c.if-line-le-LINE.branch [
      | then-line-le-LINE w ↦
          let is : is_document (line_value c.args.line.now) ≡ true = sym w.is_document.ensures ∙ (sym w.value-is ∙ c.if-is_document.true) in
          other_first c.args.line.now w.if-line-le-LINE.true is (λ e. c.in_default.not-Array (c.first_kind.ensures ∙ e))
      | else-line-le-LINE w ↦ absurd (true≢false (sym c.if-is_document.true ∙ (w.value-is ∙ lt-leb (length c.args.line.now) 2048 w.if-line-le-LINE.false)))
    ]

pub returns-else-is_document : goal.returns-else-is_document
returns-else-is_document c =
    c.if-is_document.false ∙ elim c.if-line-le-LINE.branch [
      | then-line-le-LINE w ↦ no_document c.args.line.now w.if-line-le-LINE.true (sym w.is_document.ensures ∙ (sym w.value-is ∙ c.if-is_document.false))
      | else-line-le-LINE w ↦ long_array c.args.line.now w.if-line-le-LINE.false
    ]
