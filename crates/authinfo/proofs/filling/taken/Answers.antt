-- Each return has the tests that led there. Assumes nothing.
use Rattle.std.specs.Prelude.{Ok}
use mathlib.Core.Path.{sym, ap, ◌∙◌}
use native.Mathlib.Omega.{arith}
use Rattle.authinfo.proofs.FillingLaws.{taken_long, taken_eq, taken_none, taken_filter}
use Rattle.authinfo.proofs.filling.taken.Goals as goal

pub returns-then-filled-gt-TEXT : goal.returns-then-filled-gt-TEXT
returns-then-filled-gt-TEXT c =
    sym (taken_long c.args.topic.now c.args.filled.now c.args.eq (omega arith))

pub returns-then-eq : goal.returns-then-eq
returns-then-eq c =
    ap Ok c.same.ensures ∙ sym (taken_eq c.args.topic.now c.args.filled.now c.args.eq (omega arith) c.if-eq.true)

pub returns-then-not-valid_filter : goal.returns-then-not-valid_filter
returns-then-not-valid_filter c =
    sym (taken_none c.args.topic.now c.args.filled.now c.args.eq (omega arith) c.if-eq.false (sym c.valid_filter.ensures ∙ c.if-not-valid_filter.true))

pub returns : goal.returns
returns c =
    ap Ok c.plain_match.ensures
    ∙ sym (taken_filter c.args.topic.now c.args.filled.now c.args.eq (omega arith) c.if-eq.false (sym c.valid_filter.ensures ∙ c.if-not-valid_filter.false))
