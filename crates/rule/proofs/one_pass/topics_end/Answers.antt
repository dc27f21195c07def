-- Each topic is read where the one before it ended. Assumes nothing.
use Prim.Native.Nat.{◌-◌}
use Rattle.std.specs.Prelude.{Some}
use native.Mathlib.Omega.{arith}
use mathlib.Core.Path.{sym, ap, ◌∙◌}
use Rattle.json_text.proofs.ScanLaws.{at_within}
use Rattle.rule.specs.Limits.{topics_limit}
use Rattle.rule.proofs.MemberLaws.{array_opens}
use Rattle.rule.proofs.OnePassLaws.{last_topic, next_topic, topics_read}
use Rattle.rule.proofs.one_pass.topics_end.Goals as goal

pub overflow_add-at : goal.overflow_add-at
overflow_add-at c =
    omega (arith, at_within c.args.line.now c.args.at 0x5b (omega arith) (array_opens c.args.line.now c.args.at (sym c.kind_at.ensures ∙ c.in-Array.is)))

pub loop-init : goal.loop-init
loop-init c = λ end t. topics_read c.args.line.now c.args.at (array_opens c.args.line.now c.args.at (sym c.kind_at.ensures ∙ c.in-Array.is)) c.skip_blanks-i.ensures t

pub returns-in-Close : goal.returns-in-Close
returns-in-Close c =
    c.loop.invariant _
    (last_topic c.args.line.now c.loop.i (topics_limit - c.loop.counter) (omega arith) c.in_ok-end.ensures (sym c.in_ok-next.ensures ∙ ap Some c.in-Close.is))

pub loop-preserved : goal.loop-preserved
loop-preserved c =
    λ end t.
    c.loop.invariant end
    (next_topic c.args.line.now c.loop.i (topics_limit - c.loop.counter) (omega arith) c.in_ok-end.ensures (sym c.in_ok-next.ensures ∙ ap Some c.in-Comma.is) t)
