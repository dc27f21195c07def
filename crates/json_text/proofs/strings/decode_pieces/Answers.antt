-- A scan says whether there is a string and whether it fits. Assumes nothing.
use mathlib.Core.Path.{sym, ◌∙◌}
use lib.ListN.{length}
use Rattle.json_text.proofs.StringLaws.{scanned-text, scanned_bad, copied_none, copied_over, copied_fits, found-fits}
use Rattle.json_text.specs.Strings.{string_at}
use Rattle.json_text.proofs.strings.decode_pieces.Goals as goal

pub returns-then-buffer-read : goal.returns-then-buffer-read
returns-then-buffer-read c =
    let o = string_at c.args.line.now c.args.at in
    let whole = copied_over c.args.buffer.now o _ (scanned-text c.args.at o c.in-Some.read (sym c.scan_string.ensures ∙ c.in-Some.is)) c.if-buffer-read.true in record { value = whole.0; buffer_after = whole.1 }

pub write_decoded-requires : goal.write_decoded-requires
write_decoded-requires c =
    let o = string_at c.args.line.now c.args.at in
    found-fits (length c.args.buffer.now) o _ (scanned-text c.args.at o c.in-Some.read (sym c.scan_string.ensures ∙ c.in-Some.is)) c.if-buffer-read.false

pub returns-in_default : goal.returns-in_default
returns-in_default c =
    let o = string_at c.args.line.now c.args.at in
    let whole = copied_none (length c.args.buffer.now) c.args.buffer.now o (scanned_bad c.args.at o (sym c.scan_string.ensures ∙ c.in_default.is)) in record { value = whole.0; buffer_after = whole.1 }

pub returns : goal.returns
returns c =
    let o = string_at c.args.line.now c.args.at in
    record { value = copied_fits (length c.args.buffer.now) o _ (scanned-text c.args.at o c.in-Some.read (sym c.scan_string.ensures ∙ c.in-Some.is)) c.if-buffer-read.false; buffer_after = c.write_decoded.ensures }
