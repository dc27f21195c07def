-- The loops' invariants stand in Invariants.antt. Assumes nothing.
use Prim.Native.Nat.{ℕ}
use native.Mathlib.Omega.{arith}
use mathlib.Core.Path.{◌≡◌, ap}
use lib.ListN.{length, replicate, length-replicate}
use Rattle.std.specs.Option.{option_copied}
use Rattle.json_text.specs.Access.{places_from}
use Rattle.json_text.specs.Lines.{lines}
use Rattle.events.specs.Templates.{first_topic}
use Rattle.events.proofs.PushLaws.{topic_long}
use Rattle.events.proofs.ConnectLaws.{left_start, left_end, topics_start, topics_none, topic_row, row_present, row_added, row_room, row_full}
use Rattle.events.proofs.connecting.push_rows.Goals as goal

pub loop-line-init : goal.loop-line-init
loop-line-init c =
    let whole : c.into_iter-line-iterator.result.rest.now ≡ c.args.rules.now = cc (c.into_iter-line-iterator.ensures.into_iter_gives, c.new-line-items.ensures) in
    (tt, tt, (rw whole (left_start _ _ _ _ _ _ _ c.requires.none_over), rw whole (omega arith)))

pub loop-p-init : goal.loop-p-init
loop-p-init c =
    let line : c.into_iter-p-iterator.result.line.now ≡ c.in-Some.line.now = cc (c.into_iter-p-iterator.ensures.into_iter_gives, c.topics-p-items.ensures.of_line) in
    let first : c.into_iter-p-iterator.result.next ≡ first_topic c.in-Some.line.now = cc (c.into_iter-p-iterator.ensures.into_iter_gives, c.topics-p-items.ensures.from_first) in
    (tt, tt, topics_start _ _ _ _ _ _ _ c.loop-line.rule c.in-Some.ensures.steps (λ i. places_from (line i) (first i)) c.loop-line.invariant.2.0)

pub overflow_add-used : goal.overflow_add-used
overflow_add-used c =
    let row = topic_row c.args.table c.args.who.session c.args.who.id.now (option_copied c.args.who.name) c.args.rules.now c.args.earlier c.args.part.now c.loop-line.rule c.in-Some.line.now _ (replicate 256 0)
    c.in-Some-p.ensures.steps c.loop-p.invariant.2 c.args.who.short (length-replicate {A = ℕ} 256 0) c.fill_topic-topic.ensures.value c.fill_topic-topic.ensures.buffer_after in
    omega (arith, row_room _ _ _ _ _ _ _ row (c.push_topic.ensures.value, c.push_topic.ensures.part_after) c.push_topic.auto.part (topic_long _ _ _ _ _ _) c.in-Added.is)

pub returns-in-Full : goal.returns-in-Full
returns-in-Full c =
    let row = topic_row c.args.table c.args.who.session c.args.who.id.now (option_copied c.args.who.name) c.args.rules.now c.args.earlier c.args.part.now c.loop-line.rule c.in-Some.line.now _ (replicate 256 0)
    c.in-Some-p.ensures.steps c.loop-p.invariant.2 c.args.who.short (length-replicate {A = ℕ} 256 0) c.fill_topic-topic.ensures.value c.fill_topic-topic.ensures.buffer_after in
    let whole = row_full _ _ _ _ _ _ _ row (c.push_topic.ensures.value, c.push_topic.ensures.part_after) c.push_topic.auto.part c.in-Full.is in
    record { value = whole.0; part_after = whole.1 }

pub loop-p-preserved-in-Present : goal.loop-p-preserved-in-Present
loop-p-preserved-in-Present c =
    let row = topic_row c.args.table c.args.who.session c.args.who.id.now (option_copied c.args.who.name) c.args.rules.now c.args.earlier c.args.part.now c.loop-line.rule c.in-Some.line.now _ (replicate 256 0)
    c.in-Some-p.ensures.steps c.loop-p.invariant.2 c.args.who.short (length-replicate {A = ℕ} 256 0) c.fill_topic-topic.ensures.value c.fill_topic-topic.ensures.buffer_after in
    (tt, tt, row_present _ _ _ _ _ _ _ row (c.push_topic.ensures.value, c.push_topic.ensures.part_after) c.push_topic.auto.part c.in-Present.is)

pub loop-p-preserved : goal.loop-p-preserved
loop-p-preserved c =
    let row = topic_row c.args.table c.args.who.session c.args.who.id.now (option_copied c.args.who.name) c.args.rules.now c.args.earlier c.args.part.now c.loop-line.rule c.in-Some.line.now _ (replicate 256 0)
    c.in-Some-p.ensures.steps c.loop-p.invariant.2 c.args.who.short (length-replicate {A = ℕ} 256 0) c.fill_topic-topic.ensures.value c.fill_topic-topic.ensures.buffer_after in
    (tt, tt, row_added _ _ _ _ _ _ _ row (c.push_topic.ensures.value, c.push_topic.ensures.part_after) c.push_topic.auto.part c.in-Added.is)

pub loop-line-preserved : goal.loop-line-preserved
loop-line-preserved c = (
  tt,
  tt,
  (
    topics_none _ _ _ _ _ _ _ c.loop-line.rule c.in-Some.line.now (lines c.next.new.self.rest.now) c.in-None-p.ensures.steps.0 c.loop-p.invariant.2,
    omega (arith, c.loop-line.invariant.2.1, ap length c.in-Some.ensures.steps),
  ),
)

pub returns : goal.returns
returns c =
    let whole = left_end _ _ _ _ _ _ _ c.loop-line.rule c.in-None.ensures.steps.0 c.loop-line.invariant.2.0 in
    record { value = whole.0; part_after = whole.1 }
