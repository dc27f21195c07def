-- Each return has the tests that led there. Assumes nothing.
use mathlib.Core.Path.{sym, ◌∙◌}
use native.Mathlib.Omega.{arith}
use borrow.Author.Rules.{part_to_end}
use Rattle.text.specs.Ascii.{ascii}
use Rattle.text.proofs.Laws.{begins-length}
use Rattle.authinfo.proofs.FillingLaws.{topic_eq, topic_empty, topic_filter}
use Rattle.authinfo.proofs.filling.configured.Goals as goal

pub slice_bounds-filled-count : goal.slice_bounds-filled-count
slice_bounds-filled-count c =
    omega (arith, begins-length (ascii "eq ") c.args.text.now (sym c.begins.ensures ∙ c.if-begins.true))

pub slice_bounds-filled-start : goal.slice_bounds-filled-start
slice_bounds-filled-start c =
    omega (arith, begins-length (ascii "eq ") c.args.text.now (sym c.begins.ensures ∙ c.if-begins.true))

pub returns-then-begins : goal.returns-then-begins
returns-then-begins c =
    rw part_to_end at c.filled.ensures ∙ sym (topic_eq c.args.asks.now.topic.now c.args.asks.now.client.now.id c.args.asks.now.client.now.name c.args.text.now (sym c.begins.ensures ∙ c.if-begins.true))

pub returns-then-text-eq0 : goal.returns-then-text-eq0
returns-then-text-eq0 c =
    sym (topic_empty c.args.asks.now.topic.now c.args.asks.now.client.now.id c.args.asks.now.client.now.name c.args.text.now (sym c.begins.ensures ∙ c.if-begins.false) c.if-text-eq0.true)

pub returns : goal.returns
returns c =
    c.filled-2.ensures ∙ sym (topic_filter c.args.asks.now.topic.now c.args.asks.now.client.now.id c.args.asks.now.client.now.name c.args.text.now (sym c.begins.ensures ∙ c.if-begins.false) c.if-text-eq0.false)
