-- `table::words::eight` meets its contract: the first eight bytes of the part are those from `at` on. Assumes nothing.
use mathlib.Core.Path.{◌∙◌}
use native.Mathlib.Nat.{add-sub_cancel_left}
use native.Mathlib.Omega.{arith}
use lib.ListN.{drop}
use Rattle.std.proofs.lemmas.List.{take-take}
use Rattle.table.proofs.OrderLaws.{word_read}
use Rattle.table.proofs.words.eight.Goals as goal

pub returns : goal.returns
returns c =
    let chunk = rw (c.unwrap.ensures, add-sub_cancel_left) at c.first_chunk.ensures.cases in
    c.from_le_bytes.ensures ∙ word_read c.args.at c.args.s.now _ (chunk.same ∙ take-take 8 8 (drop c.args.at c.args.s.now) (omega arith))
