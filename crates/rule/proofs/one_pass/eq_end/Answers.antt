-- By the topic's plain strings. Assumes nothing.
use native.Mathlib.Omega.{arith}
use mathlib.Core.Path.{sym, ◌∙◌}
use Prim.Native.Nat.{◌+◌, ◌-◌}
use borrow.Author.Tests.{leb-true}
use lib.Dec.{leb}
use Rattle.rule.specs.Limits.{text_limit}
use Rattle.rule.proofs.OnePassLaws.{then_told, eq_to, eq_string, eq_read}
use Rattle.rule.proofs.one_pass.eq_end.Goals as goal

pub overflow_add-eq : goal.overflow_add-eq
overflow_add-eq c =
    let p = eq_string c.args.line.now c.args.at (eq_to c.args.line.now c.args.at (sym c.eq_text.ensures ∙ c.in-Some.is)) in omega arith

pub overflow_sub-eq : goal.overflow_sub-eq
overflow_sub-eq c =
    let p = eq_string c.args.line.now c.args.at (eq_to c.args.line.now c.args.at (sym c.eq_text.ensures ∙ c.in-Some.is)) in omega arith

pub returns : goal.returns
returns c =
    then_told _ (leb (c.in-Some.eq.closes - (c.in-Some.eq.opens + 1)) text_limit) c.then_some.ensures (λ e. eq_read c.args.line.now c.args.at (eq_to c.args.line.now c.args.at (sym c.eq_text.ensures ∙ c.in-Some.is)) (leb-true _ _ e))
