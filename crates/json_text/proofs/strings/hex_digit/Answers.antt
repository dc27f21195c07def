-- The ranges of the digits. Assumes nothing.
use native.Mathlib.Omega.{arith}
use mathlib.Core.Path.{refl, sym}
use Rattle.json_text.proofs.Utf8Laws.{within, over, outside}
use Rattle.json_text.proofs.PieceLaws.{hex_by}
use Rattle.json_text.proofs.strings.hex_digit.Goals as goal

pub returns-in-48-to-57 : goal.returns-in-48-to-57
returns-in-48-to-57 c = sym (hex_by c.args.b (within 0x30 0x39 c.args.b (omega arith) (omega arith)) refl refl)

pub returns-in-65-to-70 : goal.returns-in-65-to-70
returns-in-65-to-70 c =
    sym (hex_by c.args.b (over 0x30 0x39 c.args.b (omega arith)) (within 0x41 0x46 c.args.b (omega arith) (omega arith)) refl)

pub returns-in-97-to-102 : goal.returns-in-97-to-102
returns-in-97-to-102 c =
    sym
    (hex_by c.args.b (over 0x30 0x39 c.args.b (omega arith)) (over 0x41 0x46 c.args.b (omega arith))
    (within 0x61 0x66 c.args.b (omega arith) (omega arith)))

pub returns-in_default : goal.returns-in_default
returns-in_default c =
    let b = c.args.b in
    sym (hex_by b (outside 0x30 0x39 b (λ h k. omega arith)) (outside 0x41 0x46 b (λ h k. omega arith)) (outside 0x61 0x66 b (λ h k. omega arith)))

pub returns-in_default-2 : goal.returns-in_default-2
returns-in_default-2 c =
    let b = c.args.b in
    sym (hex_by b (outside 0x30 0x39 b (λ h k. omega arith)) (outside 0x41 0x46 b (λ h k. omega arith)) (outside 0x61 0x66 b (λ h k. omega arith)))

pub returns-in_default-3 : goal.returns-in_default-3
returns-in_default-3 c =
    let b = c.args.b in
    sym (hex_by b (outside 0x30 0x39 b (λ h k. omega arith)) (outside 0x41 0x46 b (λ h k. omega arith)) (outside 0x61 0x66 b (λ h k. omega arith)))

pub returns-in_default-4 : goal.returns-in_default-4
returns-in_default-4 c =
    let b = c.args.b in
    sym (hex_by b (outside 0x30 0x39 b (λ h k. omega arith)) (outside 0x41 0x46 b (λ h k. omega arith)) (outside 0x61 0x66 b (λ h k. omega arith)))
