-- `events::leaving::any_clears` meets its contract: the chunks are the notes. Assumes nothing.
use mathlib.Core.Path.{sym, ◌∙◌}
use borrow.Author.Rules.{rules}
use native.Mathlib.Omega.{arith}
use Prim.Native.Nat.{ℕ}
use mathlib.Core.Bool.{Bool}
use mathlib.Core.List.{List}
use lib.ListN.{length}
use Rattle.std.proofs.lemmas.Iterator.Search.{any_from_yields_List}
use Rattle.table.specs.Bytes.{rows}
use Rattle.table.proofs.TableLaws.{some_map}
use Rattle.table.proofs.ChunkLaws.{YieldsList-from_rows, some_row-any}
use Rattle.store.specs.Layout.{numbered_codec, note_codec, get_all}
use Rattle.events.specs.Event.{clears}
use Rattle.events.specs.Leaving.{note_row, note_rows_in}
use Rattle.events.proofs.leaving.any_clears.Goals as goal

pub returns : goal.returns
unfolding note_rows_in note_row get_all numbered_codec
returns c =
    let part = c.args.notes.now in
    let test : List ℕ → Bool = λ b. clears c.args.session c.args.filter.now (note_row b) in
    let of_rows = YieldsList-from_rows 260 (length part) part c.chunks_exact.ensures.rest c.chunks_exact.ensures.size (omega arith) in
    any_from_yields_List test _ _ c.any.result c.any.ensures.ran of_rows (λ x b q k. search rules)
    ∙ (some_row-any test (rows 260 (length part) part) ∙ sym (some_map (clears c.args.session c.args.filter.now) note_codec.get (rows 260 (length part) part)))
