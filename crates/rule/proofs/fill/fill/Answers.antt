-- The string at the place is the template. Assumes nothing.
use Rattle.std.specs.Option.{option_copied}
use mathlib.Core.Path.{sym, ◌∙◌}
use lib.ListN.{replicate}
use lib.Seq.{length-take-le}
use Rattle.json_text.specs.Strings.{string_at}
use Rattle.rule.proofs.DecodeLaws.{decoded_length, ok_told}
use Rattle.rule.proofs.FillLaws.{filled_here, filled_unfit}
use Rattle.rule.proofs.fill.fill.Goals as goal

pub returns-in_err-n-clause-value : goal.returns-in_err-n-clause-value
returns-in_err-n-clause-value c =
    c.from_residual.ensures
    ∙ (filled_unfit c.args.buffer.now c.args.id.now (option_copied c.args.name) (string_at c.args.line.now c.args.at) c.decode.ensures.value
    (sym c.ok.ensures.value ∙ c.in_err-n.was)).0

pub returns-in_err-n-clause-buffer_after : goal.returns-in_err-n-clause-buffer_after
returns-in_err-n-clause-buffer_after c =
    (filled_unfit c.args.buffer.now c.args.id.now (option_copied c.args.name) (string_at c.args.line.now c.args.at) c.decode.ensures.value
    (sym c.ok.ensures.value ∙ c.in_err-n.was)).1

pub slice_bounds-template-end : goal.slice_bounds-template-end
slice_bounds-template-end c =
    let o = string_at c.args.line.now c.args.at in
    (decoded_length (replicate 256 0) o c.decode.ensures.value c.decode.ensures.buffer_after (ok_told (sym c.ok.ensures.value ∙ c.in_ok-n.was))).room

pub slice_bounds-fill_text-end : goal.slice_bounds-fill_text-end
slice_bounds-fill_text-end c =
    let o = string_at c.args.line.now c.args.at in
    sym (length-take-le c.in_ok-n.n _ (decoded_length (replicate 256 0) o c.decode.ensures.value c.decode.ensures.buffer_after (ok_told (sym c.ok.ensures.value ∙ c.in_ok-n.was))).room)

pub returns-clause-value : goal.returns-clause-value
returns-clause-value c =
    let o = string_at c.args.line.now c.args.at in
    let d = decoded_length (replicate 256 0) o c.decode.ensures.value c.decode.ensures.buffer_after (ok_told (sym c.ok.ensures.value ∙ c.in_ok-n.was)) in
    (filled_here c.args.buffer.now _ c.args.id.now (option_copied c.args.name) o d.is d.front (c.fill_text.ensures.value, c.fill_text.ensures.buffer_after)).0

pub returns-clause-buffer_after : goal.returns-clause-buffer_after
returns-clause-buffer_after c =
    let o = string_at c.args.line.now c.args.at in
    let d = decoded_length (replicate 256 0) o c.decode.ensures.value c.decode.ensures.buffer_after (ok_told (sym c.ok.ensures.value ∙ c.in_ok-n.was)) in
    (filled_here c.args.buffer.now _ c.args.id.now (option_copied c.args.name) o d.is d.front (c.fill_text.ensures.value, c.fill_text.ensures.buffer_after)).1
