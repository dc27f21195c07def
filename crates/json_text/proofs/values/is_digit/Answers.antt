-- Assumes nothing.
use mathlib.Core.Path.{sym}
use native.Mathlib.Omega.{arith}
use Rattle.json_text.proofs.Utf8Laws.{within, under, over}
use Rattle.json_text.proofs.values.is_digit.Goals as goal

pub returns-in-48-to-57 : goal.returns-in-48-to-57
returns-in-48-to-57 c =
    sym (within 0x30 0x39 _ (omega arith) (omega arith))

pub returns-in_default : goal.returns-in_default
returns-in_default c =
    sym (under 0x30 0x39 _ (omega arith))

pub returns-in_default-2 : goal.returns-in_default-2
returns-in_default-2 c =
    sym (over 0x30 0x39 _ (omega arith))
