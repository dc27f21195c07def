-- A string of at most nine bytes is decoded; a longer one is no word. Assumes nothing.
use mathlib.Core.Path.{sym, ap, ◌∙◌}
use lib.ListN.{replicate}
use lib.Seq.{length-take-le}
use Rattle.json_text.specs.Strings.{string_at}
use Rattle.rule.specs.Places.{word_of}
use Rattle.rule.proofs.WordLaws.{word_here}
use Rattle.rule.proofs.DecodeLaws.{decoded_length, ok_told, word_unfit}
use Rattle.rule.proofs.words.word_at.Goals as goal

pub returns-in_err-n : goal.returns-in_err-n
returns-in_err-n c = c.from_residual.ensures ∙ sym (word_unfit c.args.line.now c.args.at c.decode.ensures.value (sym c.ok.ensures.value ∙ c.in_err-n.was))

pub slice_bounds-text-end : goal.slice_bounds-text-end
slice_bounds-text-end c =
    let o = string_at c.args.line.now c.args.at in
    (decoded_length (replicate 9 0) o c.decode.ensures.value c.decode.ensures.buffer_after (ok_told (sym c.ok.ensures.value ∙ c.in_ok-n.was))).room

pub slice_bounds-word_of-end : goal.slice_bounds-word_of-end
slice_bounds-word_of-end c =
    let o = string_at c.args.line.now c.args.at in
    sym (length-take-le c.in_ok-n.n _ (decoded_length (replicate 9 0) o c.decode.ensures.value c.decode.ensures.buffer_after (ok_told (sym c.ok.ensures.value ∙ c.in_ok-n.was))).room)

pub returns : goal.returns
returns c =
    let o = string_at c.args.line.now c.args.at in
    let d = decoded_length (replicate 9 0) o c.decode.ensures.value c.decode.ensures.buffer_after (ok_told (sym c.ok.ensures.value ∙ c.in_ok-n.was)) in
    c.word_of.ensures ∙ (ap word_of d.front ∙ sym (word_here c.args.line.now c.args.at d.is))
