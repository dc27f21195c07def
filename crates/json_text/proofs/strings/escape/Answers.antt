-- Each return has the tests of `escape` that led there. Assumes nothing.
use native.Mathlib.Omega.{arith}
use mathlib.Core.Path.{refl, sym, ap, ◌∙◌}
use lib.ListN.{drop_of_length-le}
use borrow.Author.Tests.{eq-eqb, ne_eqb}
use Rattle.json_text.specs.Strings.{escape}
use Rattle.json_text.proofs.PieceLaws.{escape_by, escape_nothing}
use Rattle.json_text.proofs.strings.escape.Goals as goal

pub returns-in_err-e : goal.returns-in_err-e
returns-in_err-e c =
    let none = c.in_err-e.ensures.cases in
    c.from_residual.ensures ∙ sym (ap escape (drop_of_length-le c.args.bytes.now {i = 0} (omega arith)) ∙ escape_nothing)

pub returns-then-e-eq117 : goal.returns-then-e-eq117
returns-then-e-eq117 c =
    c.unicode.ensures ∙ sym (ap escape c.in_ok-e.ensures.cases.0 ∙ escape_by _ (eq-eqb _ _ c.if-e-eq117.true) refl)

pub returns-in_err-short : goal.returns-in_err-short
returns-in_err-short c =
    c.from_residual-in_err-short.ensures
    ∙ sym (ap escape c.in_ok-e.ensures.cases.0 ∙ escape_by _ (ne_eqb _ _ c.if-e-eq117.false) (sym c.short_escape.ensures ∙ c.in_err-short.was))

pub returns : goal.returns
returns c =
    sym (ap escape c.in_ok-e.ensures.cases.0 ∙ escape_by _ (ne_eqb _ _ c.if-e-eq117.false) (sym c.short_escape.ensures ∙ c.in_ok-short.was))
