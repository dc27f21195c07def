-- The loop's invariant: what was told so far is told by the members before `i`. The measure is what is left of the line. Assumes nothing.
use Rattle.std.specs.Prelude.{Some}
use Rattle.std.proofs.lemmas.Option.{MatchOption-at_some}
use Prim.Native.Nat.{◌+◌, ◌-◌}
use native.Mathlib.Omega.{arith}
use mathlib.Core.Path.{refl, sym, ◌∙◌, ap}
use Rattle.json_text.proofs.ScanLaws.{at_within}
use Rattle.json_text.proofs.PlainLaws.{plain_string}
use Rattle.rule.specs.OnePass.{PartTo}
use Rattle.rule.proofs.MemberLaws.{object_opens}
use Rattle.rule.proofs.OnePassLaws.{member_read, member_forward}
use Rattle.authinfo.proofs.OnePassLaws.{none_passed, passed_more, line_passed}
use Rattle.authinfo.proofs.one_pass.in_one_pass.Goals as goal

pub overflow_add-first : goal.overflow_add-first
overflow_add-first c =
    omega (arith, at_within c.args.line.now _ 0x7b (omega arith) (object_opens c.args.line.now _ (sym c.kind_at.ensures ∙ c.in-Object.is)))

pub loop-i-init : goal.loop-i-init
loop-i-init c =
    none_passed c.args.line.now c.skip_blanks-first.result refl (object_opens c.args.line.now _ (sym c.kind_at.ensures ∙ c.in-Object.is)) c.skip_blanks-i.ensures

pub returns-in-Close : goal.returns-in-Close
returns-in-Close c =
    let named = plain_string c.args.line.now c.loop-i.i (sym c.plain_text.ensures ∙ c.in_ok-end.was) in
    let here = member_read c.args.line.now c.loop-i.i named (sym c.value_behind.ensures ∙ c.in_ok-p.was)
    (MatchOption-at_some _ (PartTo 7 c.args.line.now c.in_ok-p.p (c.in_ok-end.end - (c.loop-i.i + 1))) _ c.in_ok-behind.was (rw (c.new-value.ensures.0, c.new-value.ensures.1) at c.end.ensures)) in
    line_passed c.args.line.now c.loop-i.invariant here (rw (c.new-value.ensures.0, c.new-value.ensures.1) at c.with_member-found.ensures) c.skip_blanks-first.ensures (sym c.separator.ensures ∙ (c.in_ok-next.was ∙ ap Some c.in-Close.is)) c.skip_blanks.ensures c.if-skip_blanks-line.false

pub loop-i-smaller : goal.loop-i-smaller
loop-i-smaller c =
    let named = plain_string c.args.line.now c.loop-i.i (sym c.plain_text.ensures ∙ c.in_ok-end.was) in
    let here = member_read c.args.line.now c.loop-i.i named (sym c.value_behind.ensures ∙ c.in_ok-p.was)
    (MatchOption-at_some _ (PartTo 7 c.args.line.now c.in_ok-p.p (c.in_ok-end.end - (c.loop-i.i + 1))) _ c.in_ok-behind.was (rw (c.new-value.ensures.0, c.new-value.ensures.1) at c.end.ensures)) in
    omega (arith, member_forward c.args.line.now here (sym c.separator.ensures ∙ (c.in_ok-next.was ∙ ap Some c.in-Comma.is)))

pub loop-i-preserved : goal.loop-i-preserved
loop-i-preserved c =
    let named = plain_string c.args.line.now c.loop-i.i (sym c.plain_text.ensures ∙ c.in_ok-end.was) in
    let here = member_read c.args.line.now c.loop-i.i named (sym c.value_behind.ensures ∙ c.in_ok-p.was)
    (MatchOption-at_some _ (PartTo 7 c.args.line.now c.in_ok-p.p (c.in_ok-end.end - (c.loop-i.i + 1))) _ c.in_ok-behind.was (rw (c.new-value.ensures.0, c.new-value.ensures.1) at c.end.ensures)) in
    passed_more c.args.line.now c.loop-i.invariant here (rw (c.new-value.ensures.0, c.new-value.ensures.1) at c.with_member-found.ensures) (sym c.separator.ensures ∙ (c.in_ok-next.was ∙ ap Some c.in-Comma.is))
