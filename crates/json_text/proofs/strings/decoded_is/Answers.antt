-- The loop's invariant: the text from `j` on is what is left of the string exactly where the text is the string. The measure is what is left
-- of the line. Assumes nothing.
use Rattle.std.specs.Prelude.{Some}
use native.Mathlib.Omega.{arith}
use mathlib.Core.Path.{refl, sym, ap, ◌∙◌}
use native.Mathlib.Nat.{add-sub_cancel_left}
use borrow.Author.Rules.{part_to_end}
use lib.ListN.{length, take, drop, length-drop}
use lib.Seq.{length-take-le}
use Rattle.text.proofs.Laws.{begins-length}
use Rattle.json_text.proofs.PieceLaws.{raw_size, escaped_size}
use Rattle.json_text.proofs.StringLaws.{is_rest, is_begins, is_closes, is_raw, is_escaped, is_bad, string_nothing, quote_opens, quote_absent}
use Rattle.json_text.specs.Utf8.{utf8}
use Rattle.json_text.proofs.ScanLaws.{at_within}
use Rattle.json_text.proofs.Utf8Laws.{encoded-is}
use Rattle.json_text.proofs.strings.decoded_is.Goals as goal

pub returns-then-not-is_at : goal.returns-then-not-is_at
unfolding is_rest
returns-then-not-is_at c =
    sym (is_begins c.args.line.now c.args.at c.args.wanted.now ∙ ap (is_rest c.args.wanted.now) (quote_absent c.args.line.now c.args.at (sym c.is_at.ensures ∙ c.if-not-is_at.true)))

pub overflow_add-i : goal.overflow_add-i
overflow_add-i c =
    omega (arith, at_within c.args.line.now c.args.at 0x22 (omega arith) (sym c.is_at.ensures ∙ c.if-not-is_at.false))

pub loop-i-init : goal.loop-i-init
loop-i-init c =
    let within = at_within c.args.line.now c.args.at 0x22 (omega arith) (sym c.is_at.ensures ∙ c.if-not-is_at.false) in
    (omega arith, omega arith, is_begins c.args.line.now c.args.at c.args.wanted.now ∙ ap (is_rest c.args.wanted.now) (quote_opens c.args.line.now c.args.at (sym c.is_at.ensures ∙ c.if-not-is_at.false)))

pub returns-in-Some-Closes : goal.returns-in-Some-Closes
returns-in-Some-Closes c =
    sym (c.loop-i.invariant.2 ∙ is_closes c.args.line.now c.loop-i.i c.loop-i-test.true c.args.wanted.now c.loop-i.j c.loop-i.invariant.1 (sym c.piece_at.ensures ∙ (c.in-Some-Closes.is ∙ ap Some c.in-Some-Closes.field-0-is)))

pub overflow_add-i-in-Some-Raw : goal.overflow_add-i-in-Some-Raw
overflow_add-i-in-Some-Raw c =
    omega (arith, raw_size (drop c.loop-i.i c.args.line.now) c.in-Some-Raw.size (sym c.piece_at.ensures ∙ (c.in-Some-Raw.is ∙ ap Some c.in-Some-Raw.field-0-is)), length-drop c.loop-i.i c.args.line.now)

pub slice_bounds-begins-end-in-Some-Raw : goal.slice_bounds-begins-end-in-Some-Raw
slice_bounds-begins-end-in-Some-Raw c =
    omega (arith, raw_size (drop c.loop-i.i c.args.line.now) c.in-Some-Raw.size (sym c.piece_at.ensures ∙ (c.in-Some-Raw.is ∙ ap Some c.in-Some-Raw.field-0-is)), length-drop c.loop-i.i c.args.line.now)

pub returns-then-not-begins : goal.returns-then-not-begins
returns-then-not-begins c =
    sym (c.loop-i.invariant.2 ∙ is_raw c.args.line.now c.loop-i.i c.loop-i-test.true c.args.wanted.now c.loop-i.j c.loop-i.invariant.1 c.in-Some-Raw.size (sym c.piece_at.ensures ∙ (c.in-Some-Raw.is ∙ ap Some c.in-Some-Raw.field-0-is)) ((sym (rw (part_to_end, add-sub_cancel_left c.loop-i.i c.in-Some-Raw.size) at c.begins.ensures)) ∙ c.if-not-begins.true))

pub overflow_add-i-in-Some-Raw-2 : goal.overflow_add-i-in-Some-Raw-2
overflow_add-i-in-Some-Raw-2 c =
    omega (arith, raw_size (drop c.loop-i.i c.args.line.now) c.in-Some-Raw.size (sym c.piece_at.ensures ∙ (c.in-Some-Raw.is ∙ ap Some c.in-Some-Raw.field-0-is)), length-drop c.loop-i.i c.args.line.now)

pub overflow_add-j : goal.overflow_add-j
overflow_add-j c =
    omega (arith, begins-length (take c.in-Some-Raw.size (drop c.loop-i.i c.args.line.now)) (drop c.loop-i.j c.args.wanted.now) ((sym (rw (part_to_end, add-sub_cancel_left c.loop-i.i c.in-Some-Raw.size) at c.begins.ensures)) ∙ c.if-not-begins.false), length-take-le c.in-Some-Raw.size (drop c.loop-i.i c.args.line.now) (raw_size (drop c.loop-i.i c.args.line.now) c.in-Some-Raw.size (sym c.piece_at.ensures ∙ (c.in-Some-Raw.is ∙ ap Some c.in-Some-Raw.field-0-is))).1, length-drop c.loop-i.j c.args.wanted.now)

pub loop-i-smaller-in-Some-Raw : goal.loop-i-smaller-in-Some-Raw
loop-i-smaller-in-Some-Raw c =
    omega (arith, raw_size (drop c.loop-i.i c.args.line.now) c.in-Some-Raw.size (sym c.piece_at.ensures ∙ (c.in-Some-Raw.is ∙ ap Some c.in-Some-Raw.field-0-is)), length-drop c.loop-i.i c.args.line.now)

pub loop-i-preserved-in-Some-Raw : goal.loop-i-preserved-in-Some-Raw
loop-i-preserved-in-Some-Raw c =
    (omega (arith, raw_size (drop c.loop-i.i c.args.line.now) c.in-Some-Raw.size (sym c.piece_at.ensures ∙ (c.in-Some-Raw.is ∙ ap Some c.in-Some-Raw.field-0-is)), length-drop c.loop-i.i c.args.line.now), omega (arith, begins-length (take c.in-Some-Raw.size (drop c.loop-i.i c.args.line.now)) (drop c.loop-i.j c.args.wanted.now) ((sym (rw (part_to_end, add-sub_cancel_left c.loop-i.i c.in-Some-Raw.size) at c.begins.ensures)) ∙ c.if-not-begins.false), length-take-le c.in-Some-Raw.size (drop c.loop-i.i c.args.line.now) (raw_size (drop c.loop-i.i c.args.line.now) c.in-Some-Raw.size (sym c.piece_at.ensures ∙ (c.in-Some-Raw.is ∙ ap Some c.in-Some-Raw.field-0-is))).1, length-drop c.loop-i.j c.args.wanted.now), c.loop-i.invariant.2 ∙ is_raw c.args.line.now c.loop-i.i c.loop-i-test.true c.args.wanted.now c.loop-i.j c.loop-i.invariant.1 c.in-Some-Raw.size (sym c.piece_at.ensures ∙ (c.in-Some-Raw.is ∙ ap Some c.in-Some-Raw.field-0-is)) ((sym (rw (part_to_end, add-sub_cancel_left c.loop-i.i c.in-Some-Raw.size) at c.begins.ensures)) ∙ c.if-not-begins.false))

pub returns-then-not-begins_with : goal.returns-then-not-begins_with
returns-then-not-begins_with c =
    sym (c.loop-i.invariant.2 ∙ is_escaped c.args.line.now c.loop-i.i c.loop-i-test.true c.args.wanted.now c.loop-i.j c.loop-i.invariant.1 c.in-Some-Escaped.c c.in-Some-Escaped.size refl (sym c.piece_at.ensures ∙ (c.in-Some-Escaped.is ∙ ap Some c.in-Some-Escaped.field-0-is)) ((sym (rw part_to_end at c.begins_with.ensures)) ∙ c.if-not-begins_with.true))

pub overflow_add-i-in-Some-Escaped : goal.overflow_add-i-in-Some-Escaped
overflow_add-i-in-Some-Escaped c =
    omega (arith, escaped_size (drop c.loop-i.i c.args.line.now) c.in-Some-Escaped.c c.in-Some-Escaped.size (sym c.piece_at.ensures ∙ (c.in-Some-Escaped.is ∙ ap Some c.in-Some-Escaped.field-0-is)), length-drop c.loop-i.i c.args.line.now)

pub overflow_add-j-in-Some-Escaped : goal.overflow_add-j-in-Some-Escaped
overflow_add-j-in-Some-Escaped c =
    omega (arith, (c.len_utf8-j.ensures.len ∙ ap length (encoded-is c.in-Some-Escaped.c)), begins-length (utf8 c.in-Some-Escaped.c) (drop c.loop-i.j c.args.wanted.now) ((sym (rw part_to_end at c.begins_with.ensures)) ∙ c.if-not-begins_with.false), length-drop c.loop-i.j c.args.wanted.now)

pub loop-i-smaller : goal.loop-i-smaller
loop-i-smaller c =
    omega (arith, escaped_size (drop c.loop-i.i c.args.line.now) c.in-Some-Escaped.c c.in-Some-Escaped.size (sym c.piece_at.ensures ∙ (c.in-Some-Escaped.is ∙ ap Some c.in-Some-Escaped.field-0-is)), length-drop c.loop-i.i c.args.line.now)

pub loop-i-preserved : goal.loop-i-preserved
loop-i-preserved c =
    (omega (arith, escaped_size (drop c.loop-i.i c.args.line.now) c.in-Some-Escaped.c c.in-Some-Escaped.size (sym c.piece_at.ensures ∙ (c.in-Some-Escaped.is ∙ ap Some c.in-Some-Escaped.field-0-is)), length-drop c.loop-i.i c.args.line.now), omega (arith, (c.len_utf8-j.ensures.len ∙ ap length (encoded-is c.in-Some-Escaped.c)), begins-length (utf8 c.in-Some-Escaped.c) (drop c.loop-i.j c.args.wanted.now) ((sym (rw part_to_end at c.begins_with.ensures)) ∙ c.if-not-begins_with.false), length-drop c.loop-i.j c.args.wanted.now), c.loop-i.invariant.2 ∙ is_escaped c.args.line.now c.loop-i.i c.loop-i-test.true c.args.wanted.now c.loop-i.j c.loop-i.invariant.1 c.in-Some-Escaped.c c.in-Some-Escaped.size (c.len_utf8-j.ensures.len ∙ ap length (encoded-is c.in-Some-Escaped.c)) (sym c.piece_at.ensures ∙ (c.in-Some-Escaped.is ∙ ap Some c.in-Some-Escaped.field-0-is)) ((sym (rw part_to_end at c.begins_with.ensures)) ∙ c.if-not-begins_with.false))

pub returns-in-None : goal.returns-in-None
returns-in-None c =
    sym (c.loop-i.invariant.2 ∙ is_bad c.args.line.now c.loop-i.i c.loop-i-test.true c.args.wanted.now c.loop-i.j c.loop-i.invariant.1 (sym c.piece_at.ensures ∙ c.in-None.is))

pub returns : goal.returns
unfolding is_rest
returns c =
    sym (c.loop-i.invariant.2 ∙ ap (is_rest (drop c.loop-i.j c.args.wanted.now)) (string_nothing c.args.line.now c.loop-i.i c.loop-i-test.false))
