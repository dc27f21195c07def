-- Each return has the tests of `kind_of` that led there. Assumes nothing.
use mathlib.Core.Path.{refl, sym, ap}
use mathlib.Core.Logic.{⊎_elim}
use native.Mathlib.Omega.{arith}
use Rattle.json_text.specs.Json.{is_blank, kind_of}
use Rattle.json_text.specs.Utf8.{between}
use Rattle.json_text.proofs.ScanLaws.{kind_others, no_blank}
use Rattle.json_text.proofs.Utf8Laws.{within, under, over}
use borrow.Author.Rules.{rules}
use Rattle.json_text.proofs.values.kind_of.Goals as goal

pub returns-in-34 : goal.returns-in-34
unfolding kind_of between
returns-in-34 c =
    sym (ap kind_of c.in-34.is)

pub returns-in-91 : goal.returns-in-91
unfolding kind_of between
returns-in-91 c =
    sym (ap kind_of c.in-91.is)

pub returns-in-123 : goal.returns-in-123
unfolding kind_of between
returns-in-123 c =
    sym (ap kind_of c.in-123.is)

pub returns-in-32 : goal.returns-in-32
unfolding kind_of between is_blank
returns-in-32 c =
    ⊎_elim (λ e. sym (ap kind_of e)) (⊎_elim (λ e. sym (ap kind_of e)) (λ e. sym (ap kind_of e))) c.in-32.is

pub returns-in-48-to-57 : goal.returns-in-48-to-57
returns-in-48-to-57 c =
    sym (kind_others c.args.b (within 0x30 0x39 _ (omega arith) (omega arith)) refl (λ e. omega arith) (λ e. omega arith) (λ e. omega arith) (no_blank c.args.b (assumption rules)))

pub returns-in-97-to-122 : goal.returns-in-97-to-122
returns-in-97-to-122 c =
    sym (kind_others c.args.b (over 0x30 0x39 _ (omega arith)) (within 0x61 0x7a _ (omega arith) (omega arith)) (λ e. omega arith) (λ e. omega arith) (λ e. omega arith) (no_blank c.args.b (assumption rules)))

pub returns-in_default : goal.returns-in_default
returns-in_default c =
    sym (kind_others c.args.b (under 0x30 0x39 _ (omega arith)) (under 0x61 0x7a _ (omega arith)) (λ e. omega arith) (λ e. omega arith) (λ e. omega arith) (no_blank c.args.b (assumption rules)))

pub returns-in_default-2 : goal.returns-in_default-2
returns-in_default-2 c =
    sym (kind_others c.args.b (over 0x30 0x39 _ (omega arith)) (under 0x61 0x7a _ (omega arith)) (λ e. omega arith) (λ e. omega arith) (λ e. omega arith) (no_blank c.args.b (assumption rules)))

pub returns-in_default-3 : goal.returns-in_default-3
returns-in_default-3 c =
    sym (kind_others c.args.b (over 0x30 0x39 _ (omega arith)) (over 0x61 0x7a _ (omega arith)) (λ e. omega arith) (λ e. omega arith) (λ e. omega arith) (no_blank c.args.b (assumption rules)))
