-- The chunks are the rows. Assumes nothing.
use mathlib.Core.Path.{sym, ◌∙◌}
use borrow.Author.Rules.{rules}
use native.Mathlib.Omega.{arith}
use Prim.Native.Nat.{ℕ}
use mathlib.Core.Bool.{Bool}
use mathlib.Core.List.{List}
use lib.ListN.{length}
use Rattle.std.proofs.lemmas.Iterator.Search.{any_from_yields_List}
use Rattle.table.specs.Bytes.{rows}
use Rattle.table.proofs.TableLaws.{some_map}
use Rattle.table.proofs.ChunkLaws.{YieldsList-from_rows, some_row-any}
use Rattle.store.specs.Layout.{filter_codec, get_all}
use Rattle.questions.specs.Decision.{filter_agrees}
use Rattle.questions.specs.Parts.{filter_rows}
use Rattle.questions.proofs.PassLaws.{known_match}
use Rattle.questions.proofs.decision.filter_row_agrees.Goals as goal

pub returns : goal.returns
unfolding filter_rows get_all filter_codec filter_agrees
returns c =
    let part = c.args.filters.now in
    let test : List ℕ → Bool = λ b. filter_agrees c.args.rule c.args.id.now c.args.topic.now.text.now (filter_codec.get b) in
    let of_rows = YieldsList-from_rows 326 (length part) part c.chunks_exact.ensures.rest c.chunks_exact.ensures.size (omega arith) in
    any_from_yields_List test _ _ c.any.result c.any.ensures.ran of_rows (λ x b q k. search (rules, known_match))
    ∙ (some_row-any test (rows 326 (length part) part) ∙ sym (some_map (filter_agrees c.args.rule c.args.id.now c.args.topic.now.text.now) filter_codec.get (rows 326 (length part) part)))
