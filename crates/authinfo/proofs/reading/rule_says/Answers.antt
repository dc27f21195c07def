-- Each return has what was read of the members that led there. Assumes nothing.
use Rattle.std.specs.Prelude.{Ok}
use mathlib.Core.Path.{◌≡◌, refl, sym, ap, ◌∙◌}
use mathlib.Core.Bool.{Bool, true, false, ◌&&◌}
use Rattle.rule.specs.Members.{truth_from}
use Rattle.rule.specs.declared.Refusal.TheVariants.{NotARule}
use Rattle.authinfo.specs.Places.{takes_kind, verdict, topic_from, by_topic, with_qos, with_action, with_permission}
use Rattle.authinfo.specs.OnePass.{quote_at}
use Rattle.text.proofs.TryLaws.{passed_on, missing, there}
use Rattle.authinfo.proofs.ReadingLaws.{parts_by, qos_asked_lem}
use Rattle.authinfo.proofs.reading.rule_says.Goals as goal
use Rattle.authinfo.proofs.reading.rule_says.Goals.{then-level, else-level, then-kind, else-kind}

pub returns-in_err-allow : goal.returns-in_err-allow
unfolding with_permission
returns-in_err-allow c =
    let none = missing c.args.parts.permission c.from_residual.result c.ok_or.ensures.value c.in_err-allow.was c.from_residual.ensures.1 in
    none.1 ∙ sym (parts_by c.args.line.now c.args.parts c.args.asks.now.asked c.args.asks.now.client.now.id c.args.asks.now.client.now.name c.args.asks.now.topic.now none.0 refl refl refl)

pub returns-in_err-action : goal.returns-in_err-action
unfolding with_permission with_action
returns-in_err-action c =
    let none = missing c.args.parts.action c.from_residual-in_err-action.result c.ok_or-2.ensures.value c.in_err-action.was c.from_residual-in_err-action.ensures.1 in
    none.1 ∙ sym (parts_by c.args.line.now c.args.parts c.args.asks.now.asked c.args.asks.now.client.now.id c.args.asks.now.client.now.name c.args.asks.now.topic.now (there c.args.parts.permission NotARule c.ok_or.ensures.value c.in_ok-allow.was) none.0 refl refl)

pub returns-in_err-level : goal.returns-in_err-level
unfolding with_permission with_action with_qos
returns-in_err-level c =
    let none = missing c.qos_at.result c.from_residual-in_err-level.result c.ok_or-3.ensures.value c.in_err-level.was c.from_residual-in_err-level.ensures.1 in
    none.1 ∙ sym (parts_by c.args.line.now c.args.parts c.args.asks.now.asked c.args.asks.now.client.now.id c.args.asks.now.client.now.name c.args.asks.now.topic.now (there c.args.parts.permission NotARule c.ok_or.ensures.value c.in_ok-allow.was) (there c.args.parts.action NotARule c.ok_or-2.ensures.value c.in_ok-action.was) (qos_asked_lem c.args.line.now c.args.asks.now.asked c.args.parts.qos c.qos.ensures c.qos_at.ensures none.0) refl)

pub returns-in_err-at : goal.returns-in_err-at
unfolding with_permission with_action with_qos by_topic topic_from
returns-in_err-at c =
    let none = missing c.args.parts.topic c.from_residual-in_err-at.result c.ok_or-4.ensures.value c.in_err-at.was c.from_residual-in_err-at.ensures.1 in
    none.1 ∙ sym (parts_by c.args.line.now c.args.parts c.args.asks.now.asked c.args.asks.now.client.now.id c.args.asks.now.client.now.name c.args.asks.now.topic.now (there c.args.parts.permission NotARule c.ok_or.ensures.value c.in_ok-allow.was) (there c.args.parts.action NotARule c.ok_or-2.ensures.value c.in_ok-action.was) (qos_asked_lem c.args.line.now c.args.asks.now.asked c.args.parts.qos c.qos.ensures c.qos_at.ensures (there c.qos_at.result NotARule c.ok_or-3.ensures.value c.in_ok-level.was)) (ap (topic_from c.args.asks.now.topic.now c.args.asks.now.client.now.id c.args.asks.now.client.now.name c.args.line.now) none.0))

pub invariant_of-topic : goal.invariant_of-topic
unfolding quote_at
invariant_of-topic c =
    record { closes = c.requires.quote_value ∙ ap (quote_at c.args.line.now) (there c.args.parts.topic NotARule c.ok_or-4.ensures.value c.in_ok-at.was) }

pub returns-in_err-taken : goal.returns-in_err-taken
unfolding with_permission with_action with_qos by_topic topic_from
returns-in_err-taken c =
    passed_on c.from_residual-in_err-taken.result c.from_residual-in_err-taken.ensures.1
    ∙ sym (parts_by c.args.line.now c.args.parts c.args.asks.now.asked c.args.asks.now.client.now.id c.args.asks.now.client.now.name c.args.asks.now.topic.now (there c.args.parts.permission NotARule c.ok_or.ensures.value c.in_ok-allow.was) (there c.args.parts.action NotARule c.ok_or-2.ensures.value c.in_ok-action.was) (qos_asked_lem c.args.line.now c.args.asks.now.asked c.args.parts.qos c.qos.ensures c.qos_at.ensures (there c.qos_at.result NotARule c.ok_or-3.ensures.value c.in_ok-level.was)) (ap (topic_from c.args.asks.now.topic.now c.args.asks.now.client.now.id c.args.asks.now.client.now.name c.args.line.now) (there c.args.parts.topic NotARule c.ok_or-4.ensures.value c.in_ok-at.was) ∙ (sym c.topic_at.ensures ∙ c.in_err-taken.was)))

pub returns : goal.returns
unfolding with_permission with_action with_qos by_topic topic_from
returns c =
    let says = parts_by c.args.line.now c.args.parts c.args.asks.now.asked c.args.asks.now.client.now.id c.args.asks.now.client.now.name c.args.asks.now.topic.now (there c.args.parts.permission NotARule c.ok_or.ensures.value c.in_ok-allow.was) (there c.args.parts.action NotARule c.ok_or-2.ensures.value c.in_ok-action.was) (qos_asked_lem c.args.line.now c.args.asks.now.asked c.args.parts.qos c.qos.ensures c.qos_at.ensures (there c.qos_at.result NotARule c.ok_or-3.ensures.value c.in_ok-level.was)) (ap (topic_from c.args.asks.now.topic.now c.args.asks.now.client.now.id c.args.asks.now.client.now.name c.args.line.now) (there c.args.parts.topic NotARule c.ok_or-4.ensures.value c.in_ok-at.was) ∙ (sym c.topic_at.ensures ∙ c.in_ok-taken.was)) in
    let kinds : c.takes_kind-kind.result ≡ takes_kind c.in_ok-allow.allow c.in_ok-action.action (truth_from c.args.line.now c.args.parts.retain) c.args.asks.now.asked =
    c.takes_kind-kind.ensures ∙ ap (λ t. takes_kind c.in_ok-allow.allow c.in_ok-action.action t c.args.asks.now.asked) c.truth_at.ensures in
    let hit : c.if-kind.hits ≡ ((c.in_ok-level.level && c.takes_kind-kind.result) && c.in_ok-taken.taken) = elim c.if-kind.branch [
      | then-kind w ↦ elim c.if-level.branch [
        | then-level v ↦ (let k : c.takes_kind-kind.result ≡ true = cc in rw (v.if-level.true, k) cc)
        | else-level v ↦ cc
      ]
      | else-kind w ↦ elim c.if-level.branch [
        | then-level v ↦ (let k : c.takes_kind-kind.result ≡ false = cc in rw (v.if-level.true, k) cc)
        | else-level v ↦ rw (v.if-level.false) cc
      ]
    ] in
    ap Ok (c.then_some.ensures ∙ ap (λ (b : Bool). verdict c.in_ok-allow.allow b) (hit ∙ ap (λ (k : Bool). (c.in_ok-level.level && k) && c.in_ok-taken.taken) kinds)) ∙ sym says
