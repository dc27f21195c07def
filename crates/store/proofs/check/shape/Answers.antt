-- `store::check::shape` meets its contract. There is no loop: what each test told of the store's bytes is a fact of its own, and each
-- answer follows from the tests before it. Assumes nothing.
use mathlib.Core.Path.{sym, ap, ◌∙◌}
use mathlib.Core.Bool.{true≢false}
use Rattle.store.specs.Store.{store_length}
use Rattle.store.specs.Layout.{counts}
use Rattle.store.proofs.OpenLaws.{out_told, in_told}
use Rattle.store.proofs.ViewLaws.{Laid}
use Rattle.store.proofs.ShapeLaws.{shape_not, shape_is, header_told, Counted, text_told, rules_told, filters_told, eqs_told, notes_told}
use Rattle.store.proofs.check.shape.Goals.{Else-store-length, else-table_fine-via-then-table_fine+then-table_fine-2+else-table_fine-3, else-table_fine-via-then-table_fine+else-table_fine-2, else-table_fine-via-else-table_fine}
use Rattle.store.proofs.check.shape.Goals as goal

-- the header's counts are in range, and the length is the one that follows from them
counted : (c : Else-store-length) → Counted c.args.store.now c.in_ok-counts.counts
counted c =
    let s = c.args.store.now in
    let h = in_told (counts s) (header_told s c.number_at.ensures c.number_at-2.ensures c.number_at-3.ensures c.number_at-4.ensures c.new.ensures) c.in_ok-counts.was in
    record { fits = h.0; size = c.if-store-length.false ∙ (c.length.ensures ∙ ap store_length h.1); read = h.1 }

pub returns-in_err-counts : goal.returns-in_err-counts
returns-in_err-counts c =
    let s = c.args.store.now in
    let out = out_told (counts s) (header_told s c.number_at.ensures c.number_at-2.ensures c.number_at-3.ensures c.number_at-4.ensures c.new.ensures) c.in_err-counts.was in
    c.from_residual.ensures ∙ shape_not s c.type_inv.store (λ l. true≢false (sym l.fits ∙ out))

pub returns-then-store-length : goal.returns-then-store-length
returns-then-store-length c =
    let s = c.args.store.now in
    let read = in_told (counts s) (header_told s c.number_at.ensures c.number_at-2.ensures c.number_at-3.ensures c.number_at-4.ensures c.new.ensures) c.in_ok-counts.was in
    shape_not s c.type_inv.store (λ l. c.if-store-length.true (l.size ∙ sym (c.length.ensures ∙ ap store_length read.1)))

pub returns-in_err-rules : goal.returns-in_err-rules
returns-in_err-rules c =
    let known = counted (goal.at.returns-in_err-rules c).Else-store-length in
    let malformed = text_told known c.number_at-text.ensures c.filters_at-filters_at.ensures c.text_rules.ensures c.in_err-rules.was in
    c.from_residual-in_err-rules.ensures ∙ shape_not _ c.type_inv.store (λ l. true≢false (sym l.text ∙ malformed))

pub returns-else-table_fine : goal.returns-else-table_fine
returns-else-table_fine c =
    let known = counted (goal.at.returns-else-table_fine c).Else-store-length in
    let text = rules_told known c.number_at-text.ensures c.filters_at-filters_at.ensures c.text_rules.ensures c.in_ok-rules.was in
    shape_not _ c.type_inv.store (λ l. elim c.else-table_fine.branch [
      | else-table_fine-via-then-table_fine+then-table_fine-2+else-table_fine-3 w ↦
          let told = notes_told known c.number_at-notes.ensures c.notes_at-notes_at.ensures w.table_fine-then-table_fine-2.ensures in
          true≢false (sym l.notes ∙ sym told ∙ w.if-table_fine-3.false)
      | else-table_fine-via-then-table_fine+else-table_fine-2 w ↦
          let told = eqs_told known text.1 c.number_at-eqs.ensures c.eqs_at-eqs_at.ensures c.notes_at-notes_at.ensures w.table_fine-then-table_fine.ensures in
          true≢false (sym l.eqs ∙ sym told ∙ w.if-table_fine-2.false)
      | else-table_fine-via-else-table_fine w ↦
          let told = filters_told known text.1 c.number_at-filters.ensures c.filters_at-filters_at.ensures c.eqs_at-eqs_at.ensures c.table_fine.ensures in
          true≢false (sym l.filters ∙ sym told ∙ w.if-table_fine.false)
    ])

pub returns-then-table_fine-3 : goal.returns-then-table_fine-3
returns-then-table_fine-3 c =
    let known = counted (goal.at.returns-then-table_fine-3 c).Else-store-length in
    let text = rules_told known c.number_at-text.ensures c.filters_at-filters_at.ensures c.text_rules.ensures c.in_ok-rules.was in
    let filters = filters_told known text.1 c.number_at-filters.ensures c.filters_at-filters_at.ensures c.eqs_at-eqs_at.ensures c.table_fine.ensures in
    let eqs = eqs_told known text.1 c.number_at-eqs.ensures c.eqs_at-eqs_at.ensures c.notes_at-notes_at.ensures c.table_fine-then-table_fine.ensures in
    let notes = notes_told known c.number_at-notes.ensures c.notes_at-notes_at.ensures c.table_fine-then-table_fine-2.ensures in
    let passed : Laid c.args.store.now =
    record {
      fits = known.fits;
      size = known.size;
      text = text.0;
      filters = sym filters ∙ c.if-table_fine.true;
      eqs = sym eqs ∙ c.if-table_fine-2.true;
      notes = sym notes ∙ c.if-table_fine-3.true;
    } in
    shape_is _ c.type_inv.store passed known.read c.number_at-text.ensures c.number_at-filters.ensures c.number_at-eqs.ensures c.number_at-notes.ensures
