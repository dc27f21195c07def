-- The three blanks. Assumes nothing.
use mathlib.Core.Path.{sym}
use borrow.Author.Rules.{rules}
use Rattle.json_text.proofs.ScanLaws.{is_blank_lem, no_blank}
use Rattle.json_text.proofs.values.is_blank.Goals as goal

pub returns-in-32 : goal.returns-in-32
returns-in-32 c = sym (is_blank_lem c.args.b c.in-32.is)

pub returns-in_default : goal.returns-in_default
returns-in_default c = sym (no_blank c.args.b (assumption rules))
