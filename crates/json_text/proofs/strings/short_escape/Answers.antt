-- Each arm computes; the last has none of the escapes. Assumes nothing.
use native.Mathlib.Omega.{arith}
use mathlib.Core.Path.{◌≡◌}
use mathlib.Core.Logic.{◌⊎◌, ⊎_elim, inl, inr}
use Rattle.json_text.specs.Strings.{short_escape}
use borrow.Author.Rules.{rules}
use borrow.Author.Tests.{ne_eqb}
use Rattle.json_text.proofs.strings.short_escape.Goals as goal

pub returns-in-34 : goal.returns-in-34
unfolding short_escape
returns-in-34 c =
    ⊎_elim (λ e. rw e) (λ w. ⊎_elim (λ e. rw e) (λ e. rw e) w) c.in-34.is

pub returns-in-98 : goal.returns-in-98
unfolding short_escape
returns-in-98 c =
    rw c.in-98.is

pub returns-in-102 : goal.returns-in-102
unfolding short_escape
returns-in-102 c =
    rw c.in-102.is

pub returns-in-110 : goal.returns-in-110
unfolding short_escape
returns-in-110 c =
    rw c.in-110.is

pub returns-in-114 : goal.returns-in-114
unfolding short_escape
returns-in-114 c =
    rw c.in-114.is

pub returns-in-116 : goal.returns-in-116
unfolding short_escape
returns-in-116 c =
    rw c.in-116.is

pub returns-in_default : goal.returns-in_default
unfolding short_escape
returns-in_default c =
    let h : (c.args.e ≡ 0x22) ⊎ ((c.args.e ≡ 0x2f) ⊎ (c.args.e ≡ 0x5c)) → ⊥ = assumption rules in
    rw (ne_eqb c.args.e 0x22 (λ e. h (inl e)), ne_eqb c.args.e 0x5c (λ e. h (inr (inr e))), ne_eqb c.args.e 0x2f (λ e. h (inr (inl e))), ne_eqb c.args.e 0x62 (λ e. omega arith), ne_eqb c.args.e 0x66 (λ e. omega arith), ne_eqb c.args.e 0x6e (λ e. omega arith), ne_eqb c.args.e 0x72 (λ e. omega arith), ne_eqb c.args.e 0x74 (λ e. omega arith))
