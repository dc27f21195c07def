-- The first line is given, and what is behind it is left. Assumes nothing.
use Rattle.std.proofs.Common.{refl, sym, ap, ◌∙◌, length, arith}
use lib.Seq.{length-take-le}
use borrow.Author.Rules.{part_to_end}
use borrow.Author.Tests.{eqb-true}
use Rattle.json_text.proofs.LineLaws.{lines_past, lines_split}
use Rattle.json_text.proofs.splitting.LinesIterator.next.Goals as goal

pub returns-then-is_empty-clause-steps : goal.returns-then-is_empty-clause-steps
returns-then-is_empty-clause-steps c =
    let none = lines_past c.args.self.now.rest.now 0 (omega (arith, eqb-true _ _ (sym c.is_empty.ensures ∙ c.if-is_empty.true))) in
    (none, none)

pub slice_bounds-line-end : goal.slice_bounds-line-end
slice_bounds-line-end c =
    sym (length-take-le c.line_end-end.result c.args.self.now.rest.now (lines_split c.args.self.now.rest.now (sym c.is_empty.ensures ∙ c.if-is_empty.false) c.line_end-end.ensures refl).1)

pub slice_bounds-self-count : goal.slice_bounds-self-count
slice_bounds-self-count c = (lines_split c.args.self.now.rest.now (sym c.is_empty.ensures ∙ c.if-is_empty.false) c.line_end-end.ensures c.line_behind.ensures).2

pub slice_bounds-self-start : goal.slice_bounds-self-start
slice_bounds-self-start c = omega (arith, (lines_split c.args.self.now.rest.now (sym c.is_empty.ensures ∙ c.if-is_empty.false) c.line_end-end.ensures c.line_behind.ensures).2)

pub returns-clause-steps : goal.returns-clause-steps
returns-clause-steps c = rw part_to_end (lines_split c.args.self.now.rest.now (sym c.is_empty.ensures ∙ c.if-is_empty.false) c.line_end-end.ensures c.line_behind.ensures).0

pub returns-clause-goes : goal.returns-clause-goes
returns-clause-goes c =
    let shorter = ap length (lines_split c.args.self.now.rest.now (sym c.is_empty.ensures ∙ c.if-is_empty.false) c.line_end-end.ensures c.line_behind.ensures).0 in
    record { on = λ _. (tt, tt, rw part_to_end (omega arith)); keeps = tt; rests = λ _. tt }
