-- Each return has the tests of `sequence` that led there. Assumes nothing.
use native.Mathlib.Omega.{arith}
use mathlib.Core.Path.{sym, ap, ◌∙◌}
use lib.ListN.{drop}
use Rattle.json_text.specs.Utf8.{lead_size}
use Rattle.json_text.proofs.Utf8Laws.{byte_first, lead_most, sequence_none, sequence_past, sequence_cut, sequence_at}
use Rattle.json_text.proofs.utf8.sequence.Goals as goal
use Rattle.json_text.proofs.utf8.sequence.Goals.{then-line-at-2-via-then-line-at-2, then-line-at-2-via-else-line-at-2+then-not-is_followed}

pub returns-then-line-at : goal.returns-then-line-at
returns-then-line-at c =
    sym (sequence_past _ _ c.if-line-at.true)

pub returns-in_err-n : goal.returns-in_err-n
returns-in_err-n c =
    c.from_residual.ensures
    ∙ sym
    (sequence_none (drop c.args.at c.args.line.now)
    (ap lead_size (byte_first c.args.line.now c.args.at c.if-line-at.false) ∙ (sym c.lead_size.ensures ∙ c.in_err-n.was)))

pub is_followed-requires : goal.is_followed-requires
is_followed-requires c =
    let most = lead_most _ (sym c.lead_size.ensures ∙ c.in_ok-n.was) in
    (omega arith, omega arith)

pub returns-then-line-at-2 : goal.returns-then-line-at-2
returns-then-line-at-2 c =
    let line = c.args.line.now in
    let at = c.args.at in
    elim c.then-line-at-2.branch [
      | then-line-at-2-via-then-line-at-2 w ↦ sym (sequence_cut line at c.in_ok-n.n c.if-line-at.false (sym c.lead_size.ensures ∙ c.in_ok-n.was) w.if-line-at-2.true)
      | then-line-at-2-via-else-line-at-2+then-not-is_followed w ↦
          sym (sequence_at line at c.in_ok-n.n c.if-line-at.false (sym c.lead_size.ensures ∙ c.in_ok-n.was) (sym w.is_followed.ensures ∙ w.if-not-is_followed.true))
    ]

pub returns : goal.returns
returns c =
    sym
    (sequence_at c.args.line.now c.args.at c.in_ok-n.n c.if-line-at.false (sym c.lead_size.ensures ∙ c.in_ok-n.was)
    (sym c.is_followed.ensures ∙ c.if-not-is_followed.false))
