-- The count is of the plain bytes from the place on. Assumes nothing.
use Rattle.std.proofs.Common.{ℕ, ◌+◌, ◌≡◌, sym, ap, ◌∙◌, drop, arith, rules, tests}
use lib.ListN.{length-drop}
use borrow.Author.Rules.{part_to_end}
use Rattle.std.proofs.lemmas.Iterator.{YieldsList-from_slice}
use Rattle.std.proofs.lemmas.Iterator.Consumers.{count_from_yields_List}
use Rattle.std.proofs.lemmas.Iterator.Search.{YieldsList-from_take_while}
use Rattle.std.proofs.lemmas.List.Folds.{length-prefix_len}
use Rattle.json_text.specs.Strings.{is_plain}
use Rattle.json_text.specs.Plain.{plains, skip_plains}
use Rattle.json_text.proofs.PlainLaws.{plains_past, plains_most}
use Rattle.json_text.proofs.strings.plain_end.Goals as goal

pub returns-then-line-at : goal.returns-then-line-at
returns-then-line-at c = sym (plains_past c.args.line.now c.args.at (omega arith))

pub overflow_add-result : goal.overflow_add-result
overflow_add-result c =
    let s = drop c.args.at c.args.line.now in
    let counted : c.count.result ≡ plains s =
    count_from_yields_List c.take_while.result _ c.count.ensures.ran
    (YieldsList-from_take_while _ is_plain (YieldsList-from_slice s (cc (rw part_to_end at c.iter.ensures.rest))) c.take_while.ensures.closure c.take_while.ensures.done (λ x b q k. search (rules, tests)))
    ∙ length-prefix_len is_plain s in
    omega (arith, plains_most s, length-drop c.args.at c.args.line.now)

pub returns : goal.returns
unfolding skip_plains
returns c =
    let s = drop c.args.at c.args.line.now in
    ap (λ (k : ℕ). c.args.at + k)
    (count_from_yields_List c.take_while.result _ c.count.ensures.ran
    (YieldsList-from_take_while _ is_plain (YieldsList-from_slice s (cc (rw part_to_end at c.iter.ensures.rest))) c.take_while.ensures.closure c.take_while.ensures.done (λ x b q k. search (rules, tests)))
    ∙ length-prefix_len is_plain s)
