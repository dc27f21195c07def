-- The range of the second byte, by the first. Assumes nothing.
use native.Mathlib.Omega.{arith}
use mathlib.Core.Path.{sym, ◌∙◌}
use borrow.Author.Tests.{ne_eqb}
use Rattle.json_text.proofs.Utf8Laws.{second_by}
use Rattle.json_text.proofs.utf8.is_second.Goals as goal

pub returns-in-224 : goal.returns-in-224
returns-in-224 c =
    c.in_range.ensures ∙ sym (second_by _ _ (rw c.in-224.is) (rw c.in-224.is))

pub returns-in-237 : goal.returns-in-237
returns-in-237 c =
    c.in_range-in-237.ensures ∙ sym (second_by _ _ (rw c.in-237.is) (rw c.in-237.is))

pub returns-in-240 : goal.returns-in-240
returns-in-240 c =
    c.in_range-in-240.ensures ∙ sym (second_by _ _ (rw c.in-240.is) (rw c.in-240.is))

pub returns-in-244 : goal.returns-in-244
returns-in-244 c =
    c.in_range-in-244.ensures ∙ sym (second_by _ _ (rw c.in-244.is) (rw c.in-244.is))

pub returns-in_default : goal.returns-in_default
returns-in_default c =
    c.in_range-in_default.ensures ∙ sym (second_by _ _ (rw (ne_eqb c.args.a 0xe0 (λ e. omega arith), ne_eqb c.args.a 0xf0 (λ e. omega arith))) (rw (ne_eqb c.args.a 0xed (λ e. omega arith), ne_eqb c.args.a 0xf4 (λ e. omega arith))))
