-- The answers of the cycle of calls {bracket, item, items, value}: each return has the tests of the definition that led there. Assumes nothing.
use Rattle.std.specs.Prelude.{Some}
use mathlib.Core.Path.{◌≡◌}
use mathlib.Core.Logic.{⊎_elim}
use Rattle.std.proofs.Common.{ℕ, ◌+◌, sym, ap, ◌∙◌, refl, arith}
use Rattle.json_text.specs.Json.{value_at, separator_at, is_at, longest}
use Rattle.json_text.specs.Access.{stepped, kind_at}
use Rattle.json_text.proofs.ScanLaws.{comma_next}
use Rattle.json_text.proofs.ValueLaws.{step_behind, step_on, inner_none, inner_some, step_opened, step_as, value_step, step_from, itemized_all, itemized_past, itemized_step, item_next, closing_within, bracket_step, bracket_past, value_on, member_step, element_step}
use Rattle.json_text.specs.declared.Cursor.{Cursor}
use Rattle.json_text.proofs.values.+bracket_item_items_value.Goals as goal
use Rattle.json_text.proofs.values.+bracket_item_items_value.Goals.{item-then-object+in_ok-start, item-else-object}

pub bracket-overflow_add-result : goal.bracket-overflow_add-result
bracket-overflow_add-result t c =
    omega (arith, closing_within c.args.object c.args.line.now c.skip_blanks-first.result c.closing.ensures (sym c.is_at.ensures ∙ c.if-is_at.true))

pub bracket-returns-then-is_at : goal.bracket-returns-then-is_at
bracket-returns-then-is_at t c =
    let a = c.args in
    let first = c.skip_blanks-first.ensures in
    ap (λ (p : ℕ). Some (record { at = p + 1; longest = a.c.longest })) first
    ∙ sym
    (bracket_step a.depth a.line.now a.object a.c.longest a.c.at
    (sym (λ i. is_at a.line.now (first i) (c.closing.ensures i)) ∙ (sym c.is_at.ensures ∙ c.if-is_at.true)))

pub bracket-returns : goal.bracket-returns
bracket-returns t c =
    let a = c.args in
    let first = c.skip_blanks-first.ensures in
    c.items.ensures
    ∙ (ap (stepped longest a.c.longest) (itemized_all a.depth a.line.now a.object c.skip_blanks-first.result)
    ∙ (ap (λ (p : ℕ). step_from a.depth a.line.now a.object a.c.longest p) first
    ∙ sym
    (bracket_step a.depth a.line.now a.object a.c.longest a.c.at
    (sym (λ i. is_at a.line.now (first i) (c.closing.ensures i)) ∙ (sym c.is_at.ensures ∙ c.if-is_at.false)))))

pub item-returns-in_err-start : goal.item-returns-in_err-start
unfolding value_on
item-returns-in_err-start t c =
    let a = c.args in
    rw c.if-object.true
    (c.from_residual.ensures ∙ sym (member_step a.line.now (value_at a.depth a.line.now) a.c.longest a.c.at (sym c.name.ensures ∙ c.in_err-start.was)))

pub item-returns : goal.item-returns
unfolding value_on
item-returns t c =
    let a = c.args in
    let read = value_at a.depth a.line.now in
    elim c.if-object.branch [
      | item-then-object+in_ok-start w ↦
          rw w.if-object.true
          (c.value.ensures
          ∙ (ap (λ (k : Cursor). stepped longest k.longest (read k.at)) w.start-is
          ∙ sym (member_step a.line.now read a.c.longest a.c.at (sym w.name.ensures ∙ w.in_ok-start.was))))
      | item-else-object w ↦
          rw w.if-object.false
          (c.value.ensures ∙ (ap (λ (k : Cursor). stepped longest k.longest (read k.at)) w.start-is ∙ sym (element_step a.line.now read a.c.longest a.c.at)))
    ]

pub items-loop-cursor-init : goal.items-loop-cursor-init
items-loop-cursor-init t c =
    let a = c.args in
    sym (ap (stepped longest a.c.longest) (itemized_all a.depth a.line.now a.object a.c.at))

pub items-returns-in_err-behind : goal.items-returns-in_err-behind
unfolding step_on
items-returns-in_err-behind t c =
    let a = c.args in
    let cursor = c.loop-cursor.cursor in
    c.from_residual.ensures
    ∙ sym (itemized_step a.depth a.line.now a.object cursor.longest cursor.at c.loop-cursor-test.true (sym c.item.ensures ∙ c.in_err-behind.was))
    ∙ c.loop-cursor.invariant

pub items-returns-in-Close : goal.items-returns-in-Close
unfolding step_on step_behind
items-returns-in-Close t c =
    let a = c.args in
    let cursor = c.loop-cursor.cursor in
    let behind = c.in_ok-behind.behind in
    sym
    (itemized_step a.depth a.line.now a.object cursor.longest cursor.at c.loop-cursor-test.true (sym c.item.ensures ∙ c.in_ok-behind.was)
    ∙ ap (step_behind (step_from a.depth a.line.now a.object) behind.longest)
    (ap (λ (b : ℕ). separator_at b a.line.now behind.at) (sym c.closing.ensures) ∙ (sym c.separator.ensures ∙ (c.in_ok-at.was ∙ ap Some c.in-Close.is))))
    ∙ c.loop-cursor.invariant

pub items-loop-cursor-smaller : goal.items-loop-cursor-smaller
items-loop-cursor-smaller t c =
    let a = c.args in
    let cursor = c.loop-cursor.cursor in
    omega (
      arith,
      item_next a.depth a.line.now a.object cursor.longest cursor.at (sym c.item.ensures ∙ c.in_ok-behind.was),
      comma_next a.line.now c.in_ok-behind.behind.at c.closing.result (sym c.separator.ensures ∙ (c.in_ok-at.was ∙ ap Some c.in-Comma.is)),
    )

pub items-loop-cursor-preserved : goal.items-loop-cursor-preserved
unfolding step_on step_behind
items-loop-cursor-preserved t c =
    let a = c.args in
    let cursor = c.loop-cursor.cursor in
    let behind = c.in_ok-behind.behind in
    sym
    (itemized_step a.depth a.line.now a.object cursor.longest cursor.at c.loop-cursor-test.true (sym c.item.ensures ∙ c.in_ok-behind.was)
    ∙ ap (step_behind (step_from a.depth a.line.now a.object) behind.longest)
    (ap (λ (b : ℕ). separator_at b a.line.now behind.at) (sym c.closing.ensures) ∙ (sym c.separator.ensures ∙ (c.in_ok-at.was ∙ ap Some c.in-Comma.is))))
    ∙ c.loop-cursor.invariant

pub items-returns-in_err-at : goal.items-returns-in_err-at
unfolding step_on step_behind
items-returns-in_err-at t c =
    let a = c.args in
    let cursor = c.loop-cursor.cursor in
    let behind = c.in_ok-behind.behind in
    c.from_residual-in_err-at.ensures
    ∙ sym
    (itemized_step a.depth a.line.now a.object cursor.longest cursor.at c.loop-cursor-test.true (sym c.item.ensures ∙ c.in_ok-behind.was)
    ∙ ap (step_behind (step_from a.depth a.line.now a.object) behind.longest)
    (ap (λ (b : ℕ). separator_at b a.line.now behind.at) (sym c.closing.ensures) ∙ (sym c.separator.ensures ∙ c.in_err-at.was)))
    ∙ c.loop-cursor.invariant

pub items-returns : goal.items-returns
items-returns t c =
    let a = c.args in
    let cursor = c.loop-cursor.cursor in
    sym (itemized_past a.depth a.line.now a.object cursor.longest cursor.at c.loop-cursor-test.false) ∙ c.loop-cursor.invariant

pub value-returns-in-Number : goal.value-returns-in-Number
unfolding step_as step_opened kind_at
value-returns-in-Number t c =
    let a = c.args in
    c.number.ensures
    ∙ sym
    (value_step a.depth a.line.now a.c.longest a.c.at
    ((sym c.kind_at.ensures ∙ c.in-Number.is)) refl)

pub value-returns-in-Text : goal.value-returns-in-Text
unfolding step_as step_opened kind_at
value-returns-in-Text t c =
    let a = c.args in
    c.string.ensures
    ∙ sym
    (value_step a.depth a.line.now a.c.longest a.c.at
    ((sym c.kind_at.ensures ∙ c.in-Text.is)) refl)

pub value-returns-in-Word : goal.value-returns-in-Word
unfolding step_as step_opened kind_at
value-returns-in-Word t c =
    let a = c.args in
    c.word.ensures
    ∙ sym
    (value_step a.depth a.line.now a.c.longest a.c.at
    ((sym c.kind_at.ensures ∙ c.in-Word.is)) refl)

-- no value begins so
pub value-returns-in-Blank : goal.value-returns-in-Blank
unfolding step_as step_opened kind_at
value-returns-in-Blank t c =
    let a = c.args in
    ⊎_elim
    (λ e. sym (value_step a.depth a.line.now a.c.longest a.c.at (sym c.kind_at.ensures ∙ e) refl))
    (λ e. sym (value_step a.depth a.line.now a.c.longest a.c.at (sym c.kind_at.ensures ∙ e) refl))
    c.in-Blank.is

pub bracket-returns-then-line-c : goal.bracket-returns-then-line-c
bracket-returns-then-line-c t c =
    sym (bracket_past c.args.depth c.args.line.now c.args.object c.args.c.longest c.args.c.at c.if-line-c.true)

pub value-returns-in_err-inside-in-Array : goal.value-returns-in_err-inside-in-Array
unfolding step_as step_opened kind_at
value-returns-in_err-inside-in-Array t c =
    let a = c.args in
    let none : a.depth ≡ 0 = omega (arith, c.in_err-inside-in-Array.ensures) in
    c.from_residual.ensures
    ∙ sym (value_step a.depth a.line.now a.c.longest a.c.at (sym c.kind_at.ensures ∙ c.in-Array.is) (inner_none a.depth a.line.now none))

pub value-returns-in_ok-inside-in-Array : goal.value-returns-in_ok-inside-in-Array
unfolding step_as step_opened kind_at
value-returns-in_ok-inside-in-Array t c =
    let a = c.args in
    let told = c.in_ok-inside-in-Array.ensures in
    c.bracket.ensures
    ∙ sym
    (value_step a.depth a.line.now a.c.longest a.c.at (sym c.kind_at.ensures ∙ c.in-Array.is)
    (inner_some a.depth a.line.now (λ e. omega (arith, told.0)) ∙ ap (λ (d : ℕ). Some (value_at d a.line.now)) (sym told.1)))

pub value-returns-in_err-inside-in-Object : goal.value-returns-in_err-inside-in-Object
unfolding step_as step_opened kind_at
value-returns-in_err-inside-in-Object t c =
    let a = c.args in
    let none : a.depth ≡ 0 = omega (arith, c.in_err-inside-in-Object.ensures) in
    c.from_residual-in_err-inside-in-Object.ensures
    ∙ sym (value_step a.depth a.line.now a.c.longest a.c.at (sym c.kind_at.ensures ∙ c.in-Object.is) (inner_none a.depth a.line.now none))

pub value-returns-in_ok-inside-in-Object : goal.value-returns-in_ok-inside-in-Object
unfolding step_as step_opened kind_at
value-returns-in_ok-inside-in-Object t c =
    let a = c.args in
    let told = c.in_ok-inside-in-Object.ensures in
    c.bracket-in-Object.ensures
    ∙ sym
    (value_step a.depth a.line.now a.c.longest a.c.at (sym c.kind_at.ensures ∙ c.in-Object.is)
    (inner_some a.depth a.line.now (λ e. omega (arith, told.0)) ∙ ap (λ (d : ℕ). Some (value_at d a.line.now)) (sym told.1)))
