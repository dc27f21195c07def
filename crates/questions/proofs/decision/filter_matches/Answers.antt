-- A string of at most 256 bytes is decoded and matched. Assumes nothing.
use mathlib.Core.Path.{refl, sym, ◌∙◌}
use lib.ListN.{replicate}
use lib.Seq.{length-take-le}
use Rattle.json_text.specs.Strings.{string_at}
use Rattle.rule.proofs.DecodeLaws.{decoded_length}
use Rattle.questions.proofs.HeadLaws.{filter_copied, filter_refused}
use Rattle.questions.proofs.decision.filter_matches.Goals as goal

pub slice_bounds-filter-end : goal.slice_bounds-filter-end
slice_bounds-filter-end c =
    (decoded_length (replicate 256 0) (string_at c.args.line.now c.args.at) c.decode.ensures.value c.decode.ensures.buffer_after c.in-Ok.is).room

pub slice_bounds-tree_match-end : goal.slice_bounds-tree_match-end
slice_bounds-tree_match-end c =
    sym (length-take-le c.in-Ok.n _ (decoded_length (replicate 256 0) (string_at c.args.line.now c.args.at) c.decode.ensures.value c.decode.ensures.buffer_after c.in-Ok.is).room)

pub returns-in-Ok : goal.returns-in-Ok
returns-in-Ok c =
    let told = decoded_length (replicate 256 0) (string_at c.args.line.now c.args.at) c.decode.ensures.value c.decode.ensures.buffer_after c.in-Ok.is in
    c.tree_match.ensures ∙ sym (filter_copied c.args.topic.now c.args.line.now c.args.at (replicate 256 0) refl told)

pub returns-in-Err : goal.returns-in-Err
returns-in-Err c =
    sym (filter_refused c.args.topic.now c.args.line.now c.args.at c.decode.ensures.value c.in-Err.is)
