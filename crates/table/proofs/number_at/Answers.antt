-- `table::number_at` meets its contract: what `get` gives are the bytes from `at` on, and none are missing beyond the end. Assumes nothing.
use mathlib.Core.Path.{sym, ◌∙◌}
use native.Mathlib.Omega.{arith}
use borrow.Author.Rules.{part_to_end}
use Rattle.table.proofs.ByteLaws.{number_missing, number_short, number_bytes}
use Rattle.table.proofs.number_at.Goals as goal

pub returns-in-Some-len1 : goal.returns-in-Some-len1
returns-in-Some-len1 c =
    let part = rw part_to_end at c.in-Some-len1.ensures.lookup.0.2 in
    rw (← part) (sym (number_short c.in-Some-len1.field-0.now (omega arith)))

pub returns-in-Some-len2-up : goal.returns-in-Some-len2-up
returns-in-Some-len2-up c =
    let part = rw part_to_end at c.in-Some-len2-up.ensures.lookup.0.2 in
    rw (← part) (c.from_le_bytes.ensures ∙ number_bytes c.in-Some-len2-up.field-0.now)

pub returns-in-Some-empty : goal.returns-in-Some-empty
returns-in-Some-empty c =
    sym (number_missing c.args.bytes.now c.args.at (omega (arith, c.in-Some-empty.ensures.lookup.0.3)))

pub returns-in-None : goal.returns-in-None
returns-in-None c =
    sym (number_missing c.args.bytes.now c.args.at (omega (arith, c.in-None.ensures.lookup.0)))
