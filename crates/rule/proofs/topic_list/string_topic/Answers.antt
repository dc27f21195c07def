-- A plain string is its own text; another is decoded, where it fits. Assumes nothing.
use mathlib.Core.Path.{sym, ◌∙◌}
use lib.ListN.{replicate}
use lib.Seq.{length-take-le}
use Rattle.json_text.specs.Strings.{string_at}
use Rattle.json_text.proofs.PlainLaws.{plain_string}
use Rattle.rule.proofs.DecodeLaws.{decoded_length, ok_told}
use Rattle.rule.proofs.TopicLaws.{string_plain, string_decoded, string_unfit}
use Rattle.rule.proofs.topic_list.string_topic.Goals as goal

pub returns-in-Some : goal.returns-in-Some
returns-in-Some c =
    c.text_topic.ensures
    ∙ sym (string_plain c.args.eq c.args.line.now c.args.at (plain_string c.args.line.now c.args.at (sym c.plain_text.ensures ∙ c.in-Some.is)))

pub returns-in_err-n : goal.returns-in_err-n
returns-in_err-n c =
    c.from_residual.ensures ∙ sym (string_unfit c.args.eq c.args.line.now c.args.at c.decode.ensures.value (sym c.ok.ensures.value ∙ c.in_err-n.was))

pub slice_bounds-text-end : goal.slice_bounds-text-end
slice_bounds-text-end c =
    let o = string_at c.args.line.now c.args.at in
    (decoded_length (replicate 256 0) o c.decode.ensures.value c.decode.ensures.buffer_after (ok_told (sym c.ok.ensures.value ∙ c.in_ok-n.was))).room

pub slice_bounds-text_topic-end-2 : goal.slice_bounds-text_topic-end-2
slice_bounds-text_topic-end-2 c =
    let o = string_at c.args.line.now c.args.at in
    sym (length-take-le c.in_ok-n.n _ (decoded_length (replicate 256 0) o c.decode.ensures.value c.decode.ensures.buffer_after (ok_told (sym c.ok.ensures.value ∙ c.in_ok-n.was))).room)

pub returns : goal.returns
returns c =
    c.text_topic-2.ensures
    ∙ sym
    (string_decoded c.args.eq c.args.line.now c.args.at (replicate 256 0) c.decode.ensures.value c.decode.ensures.buffer_after
    (sym c.ok.ensures.value ∙ c.in_ok-n.was))
