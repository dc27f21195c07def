-- Where a plain string was found it is copied as it stands, and else piece by piece. Assumes nothing.
use mathlib.Core.Path.{sym, ◌∙◌}
use native.Mathlib.Omega.{arith}
use Rattle.json_text.proofs.PlainLaws.{Plain, plain_string, copied-plain}
use Rattle.json_text.proofs.strings.decode.Goals.{In-Some}
use Rattle.json_text.proofs.strings.decode.Goals as goal

-- the string is a plain one
found : (c : In-Some) → Plain c.args.line.now c.args.at c.in-Some.end
found c = plain_string c.args.line.now c.args.at (sym c.plain_text.ensures ∙ c.in-Some.is)

pub overflow_add-at : goal.overflow_add-at
overflow_add-at c = let p = found (goal.at.overflow_add-at c).In-Some in omega arith

pub slice_bounds-copy_text-count : goal.slice_bounds-copy_text-count
slice_bounds-copy_text-count c = let p = found (goal.at.slice_bounds-copy_text-count c).In-Some in omega arith

pub slice_bounds-copy_text-start : goal.slice_bounds-copy_text-start
slice_bounds-copy_text-start c = let p = found (goal.at.slice_bounds-copy_text-start c).In-Some in omega arith

pub slice_bounds-copy_text-end : goal.slice_bounds-copy_text-end
slice_bounds-copy_text-end c = let p = found (goal.at.slice_bounds-copy_text-end c).In-Some in omega arith

pub returns-in-Some : goal.returns-in-Some
returns-in-Some c =
    let whole = copied-plain c.args.buffer.now (found (goal.at.returns-in-Some c).In-Some) c.copy_text.ensures.value c.copy_text.ensures.buffer_after in record { value = whole.0; buffer_after = whole.1 }
