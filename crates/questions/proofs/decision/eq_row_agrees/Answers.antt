-- The chunks are the rows. Assumes nothing.
use mathlib.Core.Path.{sym, ◌∙◌}
use borrow.Author.Rules.{rules}
use native.Mathlib.Omega.{arith}
use Prim.Native.Nat.{ℕ}
use mathlib.Core.Bool.{Bool}
use mathlib.Core.List.{List}
use lib.ListN.{length}
use Rattle.std.proofs.lemmas.Iterator.Search.{any_from_yields_List}
use Rattle.table.specs.Bytes.{rows}
use Rattle.table.proofs.TableLaws.{some_map}
use Rattle.table.proofs.ChunkLaws.{YieldsList-from_rows, some_row-any}
use Rattle.store.specs.Layout.{numbered_codec, eq_codec, get_all}
use Rattle.questions.specs.Decision.{eq_agrees}
use Rattle.questions.specs.Parts.{eq_rows}
use Rattle.questions.proofs.decision.eq_row_agrees.Goals as goal

pub returns : goal.returns
unfolding eq_rows get_all numbered_codec eq_agrees
returns c =
    let part = c.args.eqs.now in
    let test : List ℕ → Bool = λ b. eq_agrees c.args.rule c.args.topic.now (eq_codec.get b) in
    let of_rows = YieldsList-from_rows 260 (length part) part c.chunks_exact.ensures.rest c.chunks_exact.ensures.size (omega arith) in
    any_from_yields_List test _ _ c.any.result c.any.ensures.ran of_rows (λ x b q k. search rules)
    ∙ (some_row-any test (rows 260 (length part) part) ∙ sym (some_map (eq_agrees c.args.rule c.args.topic.now) eq_codec.get (rows 260 (length part) part)))
