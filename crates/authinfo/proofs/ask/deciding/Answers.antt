-- The tests in their order, then the first hit, for a superuser rule 0. Assumes nothing.
use native.Mathlib.Omega.{arith}
use mathlib.Core.Path.{refl, sym, ap, ◌∙◌}
use borrow.Author.Tests.{lt-ltb, le-ltb}
use Rattle.authinfo.specs.Decision.{Client, qos_limit}
use Rattle.authinfo.specs.Places.{qos_of_asked, for_client, unless_fault}
use Rattle.text.proofs.TryLaws.{passed_on}
use Rattle.authinfo.proofs.AskLaws.{many_lines, few_lines, name_fits, fault_by, deciding_by, superuser_allowed, others_decided}
use Rattle.authinfo.proofs.ask.deciding.Goals as goal

pub returns-then-too_long : goal.returns-then-too_long
unfolding fault_by unless_fault
returns-then-too_long c =
    sym (deciding_by c.args.client.now c.args.rules.now c.args.asked c.args.topic.now (sym c.too_long.ensures ∙ c.if-too_long.true) refl refl refl)

pub returns-then-count_lines-gt-LINES : goal.returns-then-count_lines-gt-LINES
unfolding fault_by unless_fault
returns-then-count_lines-gt-LINES c =
    sym (deciding_by c.args.client.now c.args.rules.now c.args.asked c.args.topic.now (sym c.too_long.ensures ∙ c.if-too_long.false) (many_lines c.args.rules.now (omega (arith, c.if-count_lines-gt-LINES.true, c.count_lines.ensures))) refl refl)

pub returns-then-qos-gt-QOS : goal.returns-then-qos-gt-QOS
unfolding fault_by unless_fault
returns-then-qos-gt-QOS c =
    sym (deciding_by c.args.client.now c.args.rules.now c.args.asked c.args.topic.now (sym c.too_long.ensures ∙ c.if-too_long.false) (few_lines c.args.rules.now (omega (arith, c.if-count_lines-gt-LINES.false, c.count_lines.ensures))) (lt-ltb qos_limit (qos_of_asked c.args.asked) (omega (arith, c.if-qos-gt-QOS.true, c.qos.ensures))) refl)

pub invariant_of-asks : goal.invariant_of-asks
invariant_of-asks c =
    record { name_fits = name_fits c.args.client.now.id c.args.client.now.name c.args.topic.now c.args.rules.now (sym c.too_long.ensures ∙ c.if-too_long.false) }

pub returns-in_err-found : goal.returns-in_err-found
unfolding for_client fault_by unless_fault
returns-in_err-found c =
    passed_on c.from_residual.result c.from_residual.ensures.1 ∙ sym (deciding_by c.args.client.now c.args.rules.now c.args.asked c.args.topic.now (sym c.too_long.ensures ∙ c.if-too_long.false) (few_lines c.args.rules.now (omega (arith, c.if-count_lines-gt-LINES.false, c.count_lines.ensures))) (le-ltb qos_limit (qos_of_asked c.args.asked) (omega (arith, c.if-qos-gt-QOS.false, c.qos.ensures))) (sym c.in_err-found.was ∙ c.first_hit.ensures))

pub returns-then-client : goal.returns-then-client
unfolding fault_by unless_fault
returns-then-client c =
    sym (deciding_by c.args.client.now c.args.rules.now c.args.asked c.args.topic.now (sym c.too_long.ensures ∙ c.if-too_long.false) (few_lines c.args.rules.now (omega (arith, c.if-count_lines-gt-LINES.false, c.count_lines.ensures))) (le-ltb qos_limit (qos_of_asked c.args.asked) (omega (arith, c.if-qos-gt-QOS.false, c.qos.ensures))) (sym c.in_ok-found.was ∙ c.first_hit.ensures) ∙ superuser_allowed c.in_ok-found.found (ap (λ (k : Client). k.superuser) (sym c.client.view_is) ∙ c.if-client.true))

pub returns : goal.returns
unfolding fault_by unless_fault
returns c =
    sym (deciding_by c.args.client.now c.args.rules.now c.args.asked c.args.topic.now (sym c.too_long.ensures ∙ c.if-too_long.false) (few_lines c.args.rules.now (omega (arith, c.if-count_lines-gt-LINES.false, c.count_lines.ensures))) (le-ltb qos_limit (qos_of_asked c.args.asked) (omega (arith, c.if-qos-gt-QOS.false, c.qos.ensures))) (sym c.in_ok-found.was ∙ c.first_hit.ensures) ∙ others_decided c.in_ok-found.found (ap (λ (k : Client). k.superuser) (sym c.client.view_is) ∙ c.if-client.false))
