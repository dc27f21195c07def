-- The loop's invariant: the first `j` bytes of the string's text are written, and what is left of it is the string from `i` on. The measure
-- is what is left of the line. Assumes nothing.
use Rattle.std.specs.Prelude.{Some}
use native.Mathlib.Omega.{arith}
use mathlib.Core.Path.{sym, ap, ◌∙◌}
use Prim.Native.Nat.{ℕ}
use native.Mathlib.Nat.{add-sub_cancel_left}
use lib.ListN.{length, take, drop, length-drop}
use Rattle.json_text.proofs.PieceLaws.{raw_size, escaped_size}
use Rattle.json_text.proofs.StringLaws.{writing_begins, writing_ends, writing_stops, writing-length, write_raw, write_raw_room, write_escaped, write_escaped_room, string_closes, string_bad, string_nothing, fits_opens}
use Rattle.json_text.specs.Strings.{string_at}
use Rattle.text.specs.Text.{pasted}
use Rattle.json_text.proofs.Utf8Laws.{encoded-is}
use Rattle.json_text.proofs.strings.write_decoded.Goals as goal

pub overflow_add-i : goal.overflow_add-i
overflow_add-i c =
    let o = fits_opens (length c.args.buffer.now) c.args.line.now c.args.at c.requires in
    omega arith

pub loop-i-init : goal.loop-i-init
loop-i-init c =
    let o = fits_opens (length c.args.buffer.now) c.args.line.now c.args.at c.requires in
    (omega arith, writing_begins (string_at c.args.line.now c.args.at) _ c.args.buffer.now o.behind c.requires)

pub overflow_add-i-in-Some-Raw : goal.overflow_add-i-in-Some-Raw
overflow_add-i-in-Some-Raw c =
    omega (arith, raw_size (drop c.loop-i.i c.args.line.now) c.in-Some-Raw.size (sym c.piece_at.ensures ∙ (c.in-Some-Raw.is ∙ ap Some c.in-Some-Raw.field-0-is)), length-drop c.loop-i.i c.args.line.now)

pub slice_bounds-paste-end : goal.slice_bounds-paste-end
slice_bounds-paste-end c =
    omega (arith, raw_size (drop c.loop-i.i c.args.line.now) c.in-Some-Raw.size (sym c.piece_at.ensures ∙ (c.in-Some-Raw.is ∙ ap Some c.in-Some-Raw.field-0-is)), length-drop c.loop-i.i c.args.line.now)

pub overflow_add-i-in-Some-Raw-2 : goal.overflow_add-i-in-Some-Raw-2
overflow_add-i-in-Some-Raw-2 c =
    omega (arith, raw_size (drop c.loop-i.i c.args.line.now) c.in-Some-Raw.size (sym c.piece_at.ensures ∙ (c.in-Some-Raw.is ∙ ap Some c.in-Some-Raw.field-0-is)), length-drop c.loop-i.i c.args.line.now)

pub overflow_add-j : goal.overflow_add-j
overflow_add-j c =
    omega (arith, write_raw_room c.args.line.now c.loop-i.i c.loop-i-test.true c.loop-i.invariant.1 c.in-Some-Raw.size (sym c.piece_at.ensures ∙ (c.in-Some-Raw.is ∙ ap Some c.in-Some-Raw.field-0-is)), writing-length c.loop-i.invariant.1)

pub loop-i-smaller-in-Some-Raw : goal.loop-i-smaller-in-Some-Raw
loop-i-smaller-in-Some-Raw c =
    omega (arith, raw_size (drop c.loop-i.i c.args.line.now) c.in-Some-Raw.size (sym c.piece_at.ensures ∙ (c.in-Some-Raw.is ∙ ap Some c.in-Some-Raw.field-0-is)), length-drop c.loop-i.i c.args.line.now)

pub loop-i-preserved-in-Some-Raw : goal.loop-i-preserved-in-Some-Raw
loop-i-preserved-in-Some-Raw c =
    (omega (arith, raw_size (drop c.loop-i.i c.args.line.now) c.in-Some-Raw.size (sym c.piece_at.ensures ∙ (c.in-Some-Raw.is ∙ ap Some c.in-Some-Raw.field-0-is)), length-drop c.loop-i.i c.args.line.now), write_raw c.args.line.now c.loop-i.i c.loop-i-test.true c.loop-i.invariant.1 c.in-Some-Raw.size (sym c.piece_at.ensures ∙ (c.in-Some-Raw.is ∙ ap Some c.in-Some-Raw.field-0-is)) (c.paste.ensures.buffer_after ∙ ap (λ (k : ℕ). pasted c.loop-i.j (take k (drop c.loop-i.i c.args.line.now)) c.loop-i.buffer) (add-sub_cancel_left c.loop-i.i c.in-Some-Raw.size)))

pub overflow_add-i-in-Some-Escaped : goal.overflow_add-i-in-Some-Escaped
overflow_add-i-in-Some-Escaped c =
    omega (arith, escaped_size (drop c.loop-i.i c.args.line.now) c.in-Some-Escaped.c c.in-Some-Escaped.size (sym c.piece_at.ensures ∙ (c.in-Some-Escaped.is ∙ ap Some c.in-Some-Escaped.field-0-is)), length-drop c.loop-i.i c.args.line.now)

pub overflow_add-j-in-Some-Escaped : goal.overflow_add-j-in-Some-Escaped
overflow_add-j-in-Some-Escaped c =
    omega (arith, write_escaped_room c.args.line.now c.loop-i.i c.loop-i-test.true c.loop-i.invariant.1 c.in-Some-Escaped.c c.in-Some-Escaped.size (sym c.piece_at.ensures ∙ (c.in-Some-Escaped.is ∙ ap Some c.in-Some-Escaped.field-0-is)), writing-length c.loop-i.invariant.1, (ap length (c.as_bytes-encoded.ensures.value ∙ (c.encode_utf8.ensures.value ∙ encoded-is c.in-Some-Escaped.c))))

pub loop-i-smaller : goal.loop-i-smaller
loop-i-smaller c =
    omega (arith, escaped_size (drop c.loop-i.i c.args.line.now) c.in-Some-Escaped.c c.in-Some-Escaped.size (sym c.piece_at.ensures ∙ (c.in-Some-Escaped.is ∙ ap Some c.in-Some-Escaped.field-0-is)), length-drop c.loop-i.i c.args.line.now)

pub loop-i-preserved : goal.loop-i-preserved
loop-i-preserved c =
    (omega (arith, escaped_size (drop c.loop-i.i c.args.line.now) c.in-Some-Escaped.c c.in-Some-Escaped.size (sym c.piece_at.ensures ∙ (c.in-Some-Escaped.is ∙ ap Some c.in-Some-Escaped.field-0-is)), length-drop c.loop-i.i c.args.line.now), write_escaped c.args.line.now c.loop-i.i c.loop-i-test.true c.loop-i.invariant.1 c.in-Some-Escaped.c c.in-Some-Escaped.size (sym c.piece_at.ensures ∙ (c.in-Some-Escaped.is ∙ ap Some c.in-Some-Escaped.field-0-is)) (ap length (c.as_bytes-encoded.ensures.value ∙ (c.encode_utf8.ensures.value ∙ encoded-is c.in-Some-Escaped.c))) (c.paste-in-Some-Escaped.ensures.buffer_after ∙ ap (λ t. pasted c.loop-i.j t c.loop-i.buffer) (c.as_bytes-encoded.ensures.value ∙ (c.encode_utf8.ensures.value ∙ encoded-is c.in-Some-Escaped.c))))

pub shape_of-buffer-in-Some-Closes : goal.shape_of-buffer-in-Some-Closes
shape_of-buffer-in-Some-Closes c =
    writing-length c.loop-i.invariant.1

pub returns-in-Some-Closes : goal.returns-in-Some-Closes
returns-in-Some-Closes c =
    writing_ends (string_closes c.args.line.now c.loop-i.i c.loop-i-test.true (sym c.piece_at.ensures ∙ (c.in-Some-Closes.is ∙ ap Some c.in-Some-Closes.field-0-is))) c.loop-i.invariant.1

pub shape_of-buffer-in-None : goal.shape_of-buffer-in-None
shape_of-buffer-in-None c =
    writing-length c.loop-i.invariant.1

pub returns-in-None : goal.returns-in-None
returns-in-None c =
    absurd (writing_stops (string_bad c.args.line.now c.loop-i.i c.loop-i-test.true (sym c.piece_at.ensures ∙ c.in-None.is)) c.loop-i.invariant.1)

pub shape_of-buffer : goal.shape_of-buffer
shape_of-buffer c =
    writing-length c.loop-i.invariant.1

pub returns : goal.returns
returns c =
    absurd (writing_stops (string_nothing c.args.line.now c.loop-i.i c.loop-i-test.false) c.loop-i.invariant.1)
