-- By the line's length, what the pass over it answers, or what its check does, and what the rule of its members says. Assumes nothing.
use mathlib.Core.Path.{◌≡◌, sym, ap, ◌∙◌}
use Rattle.std.proofs.lemmas.Option.{MatchOption-at_some}
use Rattle.json_text.specs.Json.{skip_blanks}
use Rattle.rule.specs.declared.Refusal.TheVariants.{NotJson}
use Rattle.authinfo.specs.Places.{question_of, places_at}
use Rattle.authinfo.specs.OnePass.{parts_at, LineTo}
use Rattle.text.proofs.TryLaws.{missing, there}
use Rattle.authinfo.proofs.ReadingLaws.{short_line, long_says, invalid_says, over_says, valid_says, tells_short, tells_says, passed_short, passed_says}
use Rattle.authinfo.proofs.reading.line_says.Goals as goal

pub returns-then-line-gt-LINE : goal.returns-then-line-gt-LINE
returns-then-line-gt-LINE c =
    sym (long_says c.args.asks.now.client.now.id c.args.asks.now.client.now.name c.args.line.now (question_of c.args.asks.now.asked c.args.asks.now.topic.now) c.if-line-gt-LINE.true)

pub rule_says-requires : goal.rule_says-requires
rule_says-requires c =
    let told = passed_short c.args.line.now (MatchOption-at_some _ (LineTo c.args.line.now) _ c.in-Some.is c.in_one_pass.ensures) in
    record { short_topic = told.0; quote_value = told.1 }

pub returns-in-Some : goal.returns-in-Some
returns-in-Some c =
    c.rule_says.ensures
    ∙ passed_says c.args.line.now (MatchOption-at_some _ (LineTo c.args.line.now) _ c.in-Some.is c.in_one_pass.ensures) c.args.asks.now.asked c.args.asks.now.topic.now c.args.asks.now.client.now.id c.args.asks.now.client.now.name c.if-line-gt-LINE.false

pub returns-in_err-longest : goal.returns-in_err-longest
returns-in_err-longest c =
    let none = missing c.check.result c.from_residual.result c.ok_or.ensures.value c.in_err-longest.was c.from_residual.ensures.1 in
    none.1 ∙ sym (invalid_says c.args.asks.now.client.now.id c.args.asks.now.client.now.name c.args.line.now (question_of c.args.asks.now.asked c.args.asks.now.topic.now) c.if-line-gt-LINE.false (sym c.check.ensures ∙ none.0))

pub returns-then-longest-gt-TEXT : goal.returns-then-longest-gt-TEXT
returns-then-longest-gt-TEXT c =
    sym (over_says c.args.asks.now.client.now.id c.args.asks.now.client.now.name c.args.line.now (question_of c.args.asks.now.asked c.args.asks.now.topic.now) c.if-line-gt-LINE.false (sym c.check.ensures ∙ there c.check.result NotJson c.ok_or.ensures.value c.in_ok-longest.was) c.if-longest-gt-TEXT.true)

pub rule_says-requires-2 : goal.rule_says-requires-2
rule_says-requires-2 c =
    let tells : c.parts_at.result ≡ parts_at c.args.line.now (places_at c.args.line.now (skip_blanks c.args.line.now 0)) = c.parts_at.ensures ∙ ap (parts_at c.args.line.now) (c.places_at-places.ensures ∙ ap (places_at c.args.line.now) c.skip_blanks.ensures) in
    let told = tells_short c.args.line.now (places_at c.args.line.now (skip_blanks c.args.line.now 0)) tells (short_line c.args.line.now (sym c.check.ensures ∙ there c.check.result NotJson c.ok_or.ensures.value c.in_ok-longest.was) c.if-longest-gt-TEXT.false) in
    record { short_topic = told.0; quote_value = told.1 }

pub returns : goal.returns
returns c =
    let tells : c.parts_at.result ≡ parts_at c.args.line.now (places_at c.args.line.now (skip_blanks c.args.line.now 0)) = c.parts_at.ensures ∙ ap (parts_at c.args.line.now) (c.places_at-places.ensures ∙ ap (places_at c.args.line.now) c.skip_blanks.ensures) in
    c.rule_says-2.ensures
    ∙ (tells_says c.args.line.now c.args.asks.now.asked c.args.asks.now.topic.now c.args.asks.now.client.now.id c.args.asks.now.client.now.name (places_at c.args.line.now (skip_blanks c.args.line.now 0)) tells
    ∙ sym (valid_says c.args.asks.now.client.now.id c.args.asks.now.client.now.name c.args.line.now c.args.asks.now.asked c.args.asks.now.topic.now c.if-line-gt-LINE.false (sym c.check.ensures ∙ there c.check.result NotJson c.ok_or.ensures.value c.in_ok-longest.was) c.if-longest-gt-TEXT.false))
