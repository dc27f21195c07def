-- The loop's invariant: the answer from the next line on, behind what was found, is that of the text. Assumes nothing.
use Rattle.std.specs.Prelude.{Err}
use Rattle.std.proofs.Common.{rules}
use native.Mathlib.Omega.{arith}
use mathlib.Core.Path.{◌≡◌, refl, sym, ap, ◌∙◌}
use Prim.Native.Nat.{◌+◌}
use lib.ListN.{length}
use Rattle.json_text.specs.Lines.{lines}
use Rattle.json_text.proofs.LineLaws.{lines_most}
use Rattle.authinfo.specs.Places.{question_of}
use Rattle.text.proofs.TryLaws.{passed_on}
use Rattle.authinfo.proofs.ReadingLaws.{mapped_err, mapped_ok}
use Rattle.authinfo.proofs.AskLaws.{from, on_line, on_line_lem, from_first}
use Rattle.authinfo.proofs.ask.first_hit.Goals as goal

pub loop-line-init : goal.loop-line-init
loop-line-init c =
    let whole : c.into_iter-line-iterator.result.rest.now ≡ c.args.rules.now = cc (c.into_iter-line-iterator.ensures.into_iter_gives, c.new-line-items.ensures) in
    (tt, tt, record { all = rw whole (omega arith); told = rw whole refl })

pub overflow_add-n : goal.overflow_add-n
overflow_add-n c =
    omega (arith, c.loop-line.invariant.2.all, ap length c.in-Some.ensures.steps, lines_most c.args.rules.now)

pub returns-in_err-said : goal.returns-in_err-said
unfolding on_line
returns-in_err-said c =
    let made = mapped_err c.line_says.result c.map_err.result _ c.map_err.ensures.cases c.in_err-said.was in
    let fault : c.in_err-said.field-0.0 ≡ record { cause = made.0; line = c.loop-line.n + 1 } = search rules in
    passed_on c.from_residual.result c.from_residual.ensures.1 ∙ (ap Err fault
    ∙ (sym (on_line_lem (question_of c.args.asks.now.asked c.args.asks.now.topic.now) c.args.asks.now.client.now.id c.args.asks.now.client.now.name c.loop-line.found (c.loop-line.n + 1) c.in-Some.ensures.steps c.line_says.ensures made.1) ∙ (c.loop-line.invariant.2.told ∙ from_first (question_of c.args.asks.now.asked c.args.asks.now.topic.now) c.args.asks.now.client.now.id c.args.asks.now.client.now.name (lines c.args.rules.now))))

pub loop-line-preserved : goal.loop-line-preserved
unfolding on_line
loop-line-preserved c =
    let said = mapped_ok c.line_says.result c.map_err.result _ c.map_err.ensures.cases c.in_ok-said.was in (
      tt,
      tt,
      record {
        all = omega (arith, c.loop-line.invariant.2.all, ap length c.in-Some.ensures.steps);
        told = (λ i. from (question_of c.args.asks.now.asked c.args.asks.now.topic.now) c.args.asks.now.client.now.id c.args.asks.now.client.now.name (c.or_hit-found.ensures i) (c.loop-line.n + 1 + 1) (lines c.next.new.self.rest.now))
            ∙ (sym (on_line_lem (question_of c.args.asks.now.asked c.args.asks.now.topic.now) c.args.asks.now.client.now.id c.args.asks.now.client.now.name c.loop-line.found (c.loop-line.n + 1) c.in-Some.ensures.steps c.line_says.ensures said) ∙ c.loop-line.invariant.2.told);
      },
    )

pub returns : goal.returns
unfolding from
returns c =
    sym (ap (from (question_of c.args.asks.now.asked c.args.asks.now.topic.now) c.args.asks.now.client.now.id c.args.asks.now.client.now.name c.loop-line.found (c.loop-line.n + 1)) c.in-None.ensures.steps.0) ∙ (c.loop-line.invariant.2.told ∙ from_first (question_of c.args.asks.now.asked c.args.asks.now.topic.now) c.args.asks.now.client.now.id c.args.asks.now.client.now.name (lines c.args.rules.now))
