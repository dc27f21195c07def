-- The loop's invariant: what is left of the string comes to what the whole comes to, with the bytes decoded so far, which are no more than
-- those passed. The measure is what is left of the line. Assumes nothing.
use Rattle.std.specs.Prelude.{Some}
use native.Mathlib.Omega.{arith}
use mathlib.Core.Path.{sym, ap, ◌∙◌}
use Prim.Native.Nat.{◌+◌}
use lib.ListN.{length, drop, length-drop}
use Rattle.json_text.proofs.PieceLaws.{plain_raw, raw_size, escaped_size, escaped_shrinks}
use Rattle.json_text.proofs.StringLaws.{scanned_to, scan_begins, scan_closes, scan_raw, scan_escaped, scan_bad, string_nothing, quote_opens, quote_absent}
use Rattle.json_text.specs.Strings.{string_from}
use Rattle.json_text.specs.Access.{scanned}
use Rattle.json_text.proofs.ScanLaws.{at_within}
use Rattle.json_text.proofs.Utf8Laws.{encoded-is}
use Rattle.json_text.proofs.strings.scan_string.Goals as goal

pub returns-then-not-is_at : goal.returns-then-not-is_at
unfolding scanned
returns-then-not-is_at c =
    sym (ap (scanned c.args.at) (quote_absent c.args.line.now c.args.at (sym c.is_at.ensures ∙ c.if-not-is_at.true)))

pub overflow_add-i : goal.overflow_add-i
overflow_add-i c =
    omega (arith, at_within c.args.line.now c.args.at 0x22 (omega arith) (sym c.is_at.ensures ∙ c.if-not-is_at.false))

pub loop-i-init : goal.loop-i-init
loop-i-init c =
    let within = at_within c.args.line.now c.args.at 0x22 (omega arith) (sym c.is_at.ensures ∙ c.if-not-is_at.false) in
    (omega arith, omega arith, ap (scanned c.args.at) (quote_opens c.args.line.now c.args.at (sym c.is_at.ensures ∙ c.if-not-is_at.false)) ∙ scan_begins c.args.at (string_from 0 (drop (c.args.at + 1) c.args.line.now)))

pub loop-i-preserved-then-is_plain : goal.loop-i-preserved-then-is_plain
loop-i-preserved-then-is_plain c =
    (omega arith, omega arith, c.loop-i.invariant.2 ∙ scan_raw c.args.line.now c.loop-i.i c.loop-i-test.true c.loop-i.n 1 (plain_raw c.args.line.now c.loop-i.i c.loop-i-test.true (sym c.is_plain.ensures ∙ c.if-is_plain.true)))

pub returns-in-Some-Closes : goal.returns-in-Some-Closes
returns-in-Some-Closes c =
    sym (c.loop-i.invariant.2 ∙ scan_closes c.args.line.now c.loop-i.i c.loop-i-test.true c.loop-i.n (sym c.piece_at.ensures ∙ (c.in-Some-Closes.is ∙ ap Some c.in-Some-Closes.field-0-is)))

pub overflow_add-i-in-Some-Raw : goal.overflow_add-i-in-Some-Raw
overflow_add-i-in-Some-Raw c =
    omega (arith, raw_size (drop c.loop-i.i c.args.line.now) c.in-Some-Raw.size (sym c.piece_at.ensures ∙ (c.in-Some-Raw.is ∙ ap Some c.in-Some-Raw.field-0-is)), length-drop c.loop-i.i c.args.line.now)

pub overflow_add-n-in-Some-Raw : goal.overflow_add-n-in-Some-Raw
overflow_add-n-in-Some-Raw c =
    omega (arith, raw_size (drop c.loop-i.i c.args.line.now) c.in-Some-Raw.size (sym c.piece_at.ensures ∙ (c.in-Some-Raw.is ∙ ap Some c.in-Some-Raw.field-0-is)), length-drop c.loop-i.i c.args.line.now)

pub loop-i-smaller-in-Some-Raw : goal.loop-i-smaller-in-Some-Raw
loop-i-smaller-in-Some-Raw c =
    omega (arith, raw_size (drop c.loop-i.i c.args.line.now) c.in-Some-Raw.size (sym c.piece_at.ensures ∙ (c.in-Some-Raw.is ∙ ap Some c.in-Some-Raw.field-0-is)), length-drop c.loop-i.i c.args.line.now)

pub loop-i-preserved-in-Some-Raw : goal.loop-i-preserved-in-Some-Raw
loop-i-preserved-in-Some-Raw c =
    (omega (arith, raw_size (drop c.loop-i.i c.args.line.now) c.in-Some-Raw.size (sym c.piece_at.ensures ∙ (c.in-Some-Raw.is ∙ ap Some c.in-Some-Raw.field-0-is)), length-drop c.loop-i.i c.args.line.now), omega arith, c.loop-i.invariant.2 ∙ scan_raw c.args.line.now c.loop-i.i c.loop-i-test.true c.loop-i.n c.in-Some-Raw.size (sym c.piece_at.ensures ∙ (c.in-Some-Raw.is ∙ ap Some c.in-Some-Raw.field-0-is)))

pub overflow_add-i-in-Some-Escaped : goal.overflow_add-i-in-Some-Escaped
overflow_add-i-in-Some-Escaped c =
    omega (arith, escaped_size (drop c.loop-i.i c.args.line.now) c.in-Some-Escaped.c c.in-Some-Escaped.size (sym c.piece_at.ensures ∙ (c.in-Some-Escaped.is ∙ ap Some c.in-Some-Escaped.field-0-is)), length-drop c.loop-i.i c.args.line.now)

pub overflow_add-n-in-Some-Escaped : goal.overflow_add-n-in-Some-Escaped
overflow_add-n-in-Some-Escaped c =
    omega (arith, escaped_size (drop c.loop-i.i c.args.line.now) c.in-Some-Escaped.c c.in-Some-Escaped.size (sym c.piece_at.ensures ∙ (c.in-Some-Escaped.is ∙ ap Some c.in-Some-Escaped.field-0-is)), escaped_shrinks (drop c.loop-i.i c.args.line.now) c.in-Some-Escaped.c c.in-Some-Escaped.size (sym c.piece_at.ensures ∙ (c.in-Some-Escaped.is ∙ ap Some c.in-Some-Escaped.field-0-is)), length-drop c.loop-i.i c.args.line.now)

pub loop-i-smaller : goal.loop-i-smaller
loop-i-smaller c =
    omega (arith, escaped_size (drop c.loop-i.i c.args.line.now) c.in-Some-Escaped.c c.in-Some-Escaped.size (sym c.piece_at.ensures ∙ (c.in-Some-Escaped.is ∙ ap Some c.in-Some-Escaped.field-0-is)), length-drop c.loop-i.i c.args.line.now)

pub loop-i-preserved : goal.loop-i-preserved
loop-i-preserved c =
    (omega (arith, escaped_size (drop c.loop-i.i c.args.line.now) c.in-Some-Escaped.c c.in-Some-Escaped.size (sym c.piece_at.ensures ∙ (c.in-Some-Escaped.is ∙ ap Some c.in-Some-Escaped.field-0-is)), length-drop c.loop-i.i c.args.line.now), omega (arith, escaped_shrinks (drop c.loop-i.i c.args.line.now) c.in-Some-Escaped.c c.in-Some-Escaped.size (sym c.piece_at.ensures ∙ (c.in-Some-Escaped.is ∙ ap Some c.in-Some-Escaped.field-0-is)), (c.len_utf8-n.ensures.len ∙ ap length (encoded-is c.in-Some-Escaped.c))), c.loop-i.invariant.2 ∙ scan_escaped c.args.line.now c.loop-i.i c.loop-i-test.true c.loop-i.n c.in-Some-Escaped.c c.in-Some-Escaped.size (c.len_utf8-n.ensures.len ∙ ap length (encoded-is c.in-Some-Escaped.c)) (sym c.piece_at.ensures ∙ (c.in-Some-Escaped.is ∙ ap Some c.in-Some-Escaped.field-0-is)))

pub returns-in-None : goal.returns-in-None
returns-in-None c =
    sym (c.loop-i.invariant.2 ∙ scan_bad c.args.line.now c.loop-i.i c.loop-i-test.true c.loop-i.n (sym c.piece_at.ensures ∙ c.in-None.is))

pub returns : goal.returns
unfolding scanned_to
returns c =
    sym (c.loop-i.invariant.2 ∙ ap (scanned_to c.loop-i.i c.loop-i.n) (string_nothing c.args.line.now c.loop-i.i c.loop-i-test.false))
