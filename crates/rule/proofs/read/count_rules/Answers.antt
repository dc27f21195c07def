-- By what reading the next of the lines left answers. Assumes nothing.
use Rattle.std.specs.Prelude.{Err}
use mathlib.Core.Path.{◌≡◌, refl, ap, ◌∙◌}
use native.Mathlib.Omega.{arith}
use Rattle.rule.proofs.ReadLaws.{read_more, read_over, read_faulty, read_all}
use Rattle.rule.proofs.read.count_rules.Goals as goal

pub loop-line-init : goal.loop-line-init
loop-line-init c =
    let whole : c.into_iter-line-iterator.result.rest.now ≡ c.args.text.now = cc (c.into_iter-line-iterator.ensures.into_iter_gives, c.new-line-items.ensures) in
    (tt, tt, record { few = omega arith; all = rw whole (omega arith); fault = rw whole refl })

pub returns-then-n-eq-LINES : goal.returns-then-n-eq-LINES
returns-then-n-eq-LINES c =
    read_over c.loop-line.invariant.2 c.in-Some.ensures.steps c.if-n-eq-LINES.true

pub returns-in-Err : goal.returns-in-Err
returns-in-Err c =
    ap Err c.faulty_line.ensures ∙ read_faulty c.loop-line.invariant.2 c.in-Some.ensures.steps c.read_rule.ensures c.in-Err.is

pub overflow_add-n : goal.overflow_add-n
overflow_add-n c =
    omega (arith, (c.loop-line.invariant.2).few)

pub loop-line-preserved : goal.loop-line-preserved
loop-line-preserved c =
    (tt, tt, read_more c.loop-line.invariant.2 c.in-Some.ensures.steps c.if-n-eq-LINES.false c.read_rule.ensures c.in_default.is)

pub returns : goal.returns
returns c =
    read_all c.loop-line.invariant.2 c.in-None.ensures.steps.0
