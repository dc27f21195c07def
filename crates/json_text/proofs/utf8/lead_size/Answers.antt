-- Each return has the ranges of `lead_size` that led there. Assumes nothing.
use native.Mathlib.Omega.{arith}
use mathlib.Core.Path.{refl, sym}
use Rattle.json_text.proofs.Utf8Laws.{within, under, over, lead_by}
use Rattle.json_text.proofs.utf8.lead_size.Goals as goal

pub returns-in-0-to-127 : goal.returns-in-0-to-127
returns-in-0-to-127 c =
    sym (lead_by c.args.a (within 0x00 0x7f c.args.a (omega arith) (omega arith)) refl refl refl)

pub returns-in-194-to-223 : goal.returns-in-194-to-223
returns-in-194-to-223 c =
    sym (lead_by c.args.a (over 0x00 0x7f c.args.a (omega arith)) (within 0xc2 0xdf c.args.a (omega arith) (omega arith)) refl refl)

pub returns-in-224-to-239 : goal.returns-in-224-to-239
returns-in-224-to-239 c =
    sym (lead_by c.args.a (over 0x00 0x7f c.args.a (omega arith)) (over 0xc2 0xdf c.args.a (omega arith)) (within 0xe0 0xef c.args.a (omega arith) (omega arith)) refl)

pub returns-in-240-to-244 : goal.returns-in-240-to-244
returns-in-240-to-244 c =
    sym (lead_by c.args.a (over 0x00 0x7f c.args.a (omega arith)) (over 0xc2 0xdf c.args.a (omega arith)) (over 0xe0 0xef c.args.a (omega arith)) (within 0xf0 0xf4 c.args.a (omega arith) (omega arith)))

pub returns-in_default : goal.returns-in_default
returns-in_default c =
    sym (lead_by c.args.a (over 0x00 0x7f c.args.a (omega arith)) (under 0xc2 0xdf c.args.a (omega arith)) (under 0xe0 0xef c.args.a (omega arith)) (under 0xf0 0xf4 c.args.a (omega arith)))

pub returns-in_default-2 : goal.returns-in_default-2
returns-in_default-2 c =
    sym (lead_by c.args.a (over 0x00 0x7f c.args.a (omega arith)) (over 0xc2 0xdf c.args.a (omega arith)) (over 0xe0 0xef c.args.a (omega arith)) (over 0xf0 0xf4 c.args.a (omega arith)))
