-- `store::check::table_fine` meets its contract, which has its tests in the same order: its chunks are the rows. Assumes nothing.
use mathlib.Core.Path.{◌≡◌, refl, sym, ap, ◌∙◌}
use mathlib.Core.Bool.{true, false, true≢false}
use Prim.Native.Nat.{◌/◌}
use borrow.Author.Rules.{rules, part_to_end}
use borrow.Author.Tests.{tests, lt-leb}
use lib.ListN.{length}
use Rattle.std.specs.List.{list_all}
use Rattle.std.specs.Slice.Iter.{chunks_exact_rest, chunks_exact_size}
use Rattle.std.proofs.lemmas.Iterator.{YieldsList-from_take}
use Rattle.std.proofs.lemmas.Iterator.Search.{all_from_yields_List}
use Rattle.table.specs.Bytes.{rows}
use Rattle.table.proofs.ChunkLaws.{YieldsList-from_rows, take-rows, rows_bound}
use Rattle.store.proofs.RowLaws.{room_for, no_room, table_short, table_by}
use Rattle.store.proofs.check.table_fine.Goals.{then-used-part, else-used-part, then-all, else-all}
use Rattle.store.proofs.check.table_fine.Goals as goal

pub returns-then-all_zero : goal.returns-then-all_zero
returns-then-all_zero g c =
    let part = c.args.part.now in
    let size = g.R.RowKind.SIZE in
    let fine = g.R.RowKind.fine c.args.bound in
    let some = rows_bound size part g.met.R.RowKind.some in
    elim c.if-all.branch [
      | then-all w ↦ elim c.if-used-part.branch [
        | then-used-part u ↦
            let of_rows = YieldsList-from_rows size (length part) part (ap chunks_exact_rest u.take.ensures.source ∙ u.chunks_exact.ensures.rest) (ap chunks_exact_size u.take.ensures.source ∙ u.chunks_exact.ensures.size ∙ u.SIZE-then-used-part.ensures) some in
            let told : u.all.result ≡ list_all fine (rows size c.args.used part) =
            all_from_yields_List fine _ _ u.all.result u.all.ensures.ran (YieldsList-from_take c.args.used of_rows u.take.ensures.count) (λ x b q k. search (rules, tests))
            ∙ ap (list_all fine) (take-rows size c.args.used (length part) part some) in
            let whole = room_for size c.args.used (length part) g.met.R.RowKind.some (rw c.SIZE.ensures at u.if-used-part.true) in
            let zero = rw (part_to_end, w.SIZE-then-all.ensures) at (sym c.if-all_zero.true ∙ w.value-is ∙ w.all_zero.ensures) in
            table_by size fine c.args.used part {fines = true} {zero = true} whole (sym w.if-all.true ∙ (u.value-is ∙ told)) zero (rw c.SIZE-then-all_zero.ensures at c.distinct.ensures)
        | else-used-part u ↦ absurd (true≢false (sym w.if-all.true ∙ (u.value-is ∙ lt-leb c.args.used (length part / c.SIZE.result) u.if-used-part.false)))
      ]
      | else-all w ↦ absurd (true≢false (sym c.if-all_zero.true ∙ w.value-is ∙ w.if-all.false))
    ]

pub returns-else-all_zero : goal.returns-else-all_zero
returns-else-all_zero g c =
    let part = c.args.part.now in
    let size = g.R.RowKind.SIZE in
    let fine = g.R.RowKind.fine c.args.bound in
    let some = rows_bound size part g.met.R.RowKind.some in
    c.if-all_zero.false ∙ elim c.if-used-part.branch [
      | then-used-part u ↦
          let of_rows = YieldsList-from_rows size (length part) part (ap chunks_exact_rest u.take.ensures.source ∙ u.chunks_exact.ensures.rest) (ap chunks_exact_size u.take.ensures.source ∙ u.chunks_exact.ensures.size ∙ u.SIZE-then-used-part.ensures) some in
          let told : u.all.result ≡ list_all fine (rows size c.args.used part) =
          all_from_yields_List fine _ _ u.all.result u.all.ensures.ran (YieldsList-from_take c.args.used of_rows u.take.ensures.count) (λ x b q k. search (rules, tests))
          ∙ ap (list_all fine) (take-rows size c.args.used (length part) part some) in
          let whole = room_for size c.args.used (length part) g.met.R.RowKind.some (rw c.SIZE.ensures at u.if-used-part.true) in
          elim c.if-all.branch [
            | then-all w ↦
                let zero = rw (part_to_end, w.SIZE-then-all.ensures) at (sym c.if-all_zero.false ∙ w.value-is ∙ w.all_zero.ensures) in
                table_by size fine c.args.used part {fines = true} {zero = false} whole (sym w.if-all.true ∙ (u.value-is ∙ told)) zero refl
            | else-all w ↦ table_by size fine c.args.used part {fines = false} whole (sym w.if-all.false ∙ (u.value-is ∙ told)) refl refl
          ]
      | else-used-part u ↦ table_short size fine c.args.used part (no_room size c.args.used (length part) g.met.R.RowKind.some (rw c.SIZE.ensures at u.if-used-part.false))
    ]
