-- `store::opening::open` meets its contract: each answer follows from the tests before it, in their order. Assumes nothing.
use mathlib.Core.Bool.{true}
use mathlib.Core.Path.{◌≡◌, sym, ap, ◌∙◌}
use Rattle.std.specs.Result.{result_ok}
use Rattle.store.specs.declared.Counts.{Counts}
use Rattle.store.specs.Store.{counts_fit}
use Rattle.store.specs.Opening.{says}
use Rattle.text.proofs.TryLaws.{missing, passed_on}
use Rattle.store.proofs.OpenLaws.{out_told, in_told, faulty_told, fine_told, fault_counts, fault_length, fault_over, fault_text, open_refused, open_done}
use Rattle.store.proofs.opening.open.Goals.{In_ok-counts}
use Rattle.store.proofs.opening.open.Goals as goal

-- the counts that are asked for
abbrev asked : In_ok-counts → Counts
asked c = record { bytes = c.args.bytes; filters = c.args.filters; eqs = c.args.eqs; notes = c.args.notes }

-- they were in range, and are those that were read
read : (c : In_ok-counts) → (counts_fit (asked c) ≡ true) × (c.in_ok-counts.counts ≡ asked c)
read c = in_told (asked c) c.new.ensures (c.ok_or.ensures.ok_part ∙ ap result_ok c.in_ok-counts.was)

pub returns-in_err-counts : goal.returns-in_err-counts
returns-in_err-counts c =
    let none = missing c.new.result c.from_residual.result c.ok_or.ensures.value c.in_err-counts.was c.from_residual.ensures.1 in
    let whole = open_refused _ c.args.text.now c.args.store.now (fault_counts _ _ _ (out_told _ c.new.ensures none.0)) in
    record { result_value = ap says none.1 ∙ whole.0; store_after = whole.1 }

pub returns-then-store-length : goal.returns-then-store-length
returns-then-store-length c =
    let counts = read (goal.at.returns-then-store-length c).In_ok-counts in
    let whole = open_refused _ c.args.text.now c.args.store.now (fault_length _ _ _ counts (λ e. c.if-store-length.true (e ∙ sym c.length.ensures))) in
    record { result_value = whole.0; store_after = whole.1 }

pub returns-then-counts-text : goal.returns-then-counts-text
returns-then-counts-text c =
    let counts = read (goal.at.returns-then-counts-text c).In_ok-counts in
    let whole = open_refused _ c.args.text.now c.args.store.now (fault_over _ _ _ counts (c.if-store-length.false ∙ c.length.ensures) c.if-counts-text.true) in
    record { result_value = whole.0; store_after = whole.1 }

pub returns-in_err-check_text : goal.returns-in_err-check_text
returns-in_err-check_text c =
    let counts = read (goal.at.returns-in_err-check_text c).In_ok-counts in
    let by_text = fault_text _ _ _ counts (c.if-store-length.false ∙ c.length.ensures) c.if-counts-text.false in
    let whole = open_refused _ c.args.text.now c.args.store.now (by_text ∙ faulty_told c.args.text.now c.check_text.ensures c.in_err-check_text.was) in
    record { result_value = ap says (passed_on _ c.from_residual-in_err-check_text.ensures.1) ∙ whole.0; store_after = whole.1 }

pub returns : goal.returns
returns c =
    let counts = read (goal.at.returns c).In_ok-counts in
    let by_text = fault_text _ _ _ counts (c.if-store-length.false ∙ c.length.ensures) c.if-counts-text.false in
    let whole = open_done _ c.args.text.now c.args.store.now (by_text ∙ fine_told c.args.text.now c.check_text.ensures c.in_ok-check_text.was) counts.1 c.write_open.ensures in
    record { result_value = whole.0; store_after = whole.1 }
