-- `table::push` meets its contract: a row that is present changes nothing, and another is written where it fits. Assumes nothing.
use mathlib.Core.Path.{sym, ◌∙◌}
use native.Mathlib.Omega.{arith}
use Rattle.table.proofs.RowLaws.{push_present, push_new, push_full}
use Rattle.table.proofs.push.Goals as goal

pub returns-then-present : goal.returns-then-present
returns-then-present c =
    let whole = push_present _ _ _ (sym c.present.ensures ∙ c.if-present.true) in record { value = whole.0; table_after = whole.1 }

pub returns-in_default : goal.returns-in_default
returns-in_default c =
    let told = rw c.in_default.is at c.checked_mul.ensures in
    let whole = push_full _ _ _ (sym c.present.ensures ∙ c.if-present.false) (omega (arith, told)) in record { value = whole.0; table_after = whole.1 }

pub returns-then-paste : goal.returns-then-paste
returns-then-paste c =
    let told = rw c.in-Some.is at c.checked_mul.ensures in
    let whole = push_new _ _ _ (sym c.present.ensures ∙ c.if-present.false) told.1 (sym c.if-paste.true ∙ c.paste.ensures.value) c.paste.ensures.buffer_after in
    record { value = whole.0; table_after = whole.1 }

pub returns-else-paste : goal.returns-else-paste
returns-else-paste c =
    let told = rw c.in-Some.is at c.checked_mul.ensures in
    let whole = push_new _ _ _ (sym c.present.ensures ∙ c.if-present.false) told.1 (sym c.if-paste.false ∙ c.paste.ensures.value) c.paste.ensures.buffer_after in
    record { value = whole.0; table_after = whole.1 }
