-- Where a plain string was found it is compared as it stands, and else piece by piece. Assumes nothing.
use mathlib.Core.Path.{sym, ap, ◌∙◌}
use native.Mathlib.Omega.{arith}
use Rattle.json_text.proofs.PlainLaws.{Plain, plain_string}
use Rattle.json_text.proofs.StringLaws.{is_rest, is_begins}
use Rattle.json_text.proofs.strings.string_is.Goals.{In-Some}
use Rattle.json_text.proofs.strings.string_is.Goals as goal

-- the string is a plain one
found : (c : In-Some) → Plain c.args.line.now c.args.at c.in-Some.end
found c = plain_string c.args.line.now c.args.at (sym c.plain_text.ensures ∙ c.in-Some.is)

pub overflow_add-at : goal.overflow_add-at
overflow_add-at c = let p = found (goal.at.overflow_add-at c).In-Some in omega arith

pub slice_bounds-same-count : goal.slice_bounds-same-count
slice_bounds-same-count c = let p = found (goal.at.slice_bounds-same-count c).In-Some in omega arith

pub slice_bounds-same-start : goal.slice_bounds-same-start
slice_bounds-same-start c = let p = found (goal.at.slice_bounds-same-start c).In-Some in omega arith

pub slice_bounds-same-end : goal.slice_bounds-same-end
slice_bounds-same-end c = let p = found (goal.at.slice_bounds-same-end c).In-Some in omega arith

pub returns-in-Some : goal.returns-in-Some
unfolding is_rest
returns-in-Some c =
    let p = found (goal.at.returns-in-Some c).In-Some in
    c.same.ensures ∙ sym (is_begins c.args.line.now c.args.at c.args.wanted.now ∙ ap (is_rest c.args.wanted.now) p.string)
