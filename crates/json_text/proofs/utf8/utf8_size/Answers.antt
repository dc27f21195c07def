-- Each return has the tests of `utf8` that led there. Assumes nothing.
use mathlib.Core.Path.{refl, sym, ap}
use native.Mathlib.Omega.{arith}
use lib.ListN.{length}
use borrow.Author.Tests.{lt-ltb, le-ltb}
use Rattle.json_text.proofs.Utf8Laws.{utf8_by}
use Rattle.json_text.proofs.utf8.utf8_size.Goals as goal

pub returns-in-0-to-127 : goal.returns-in-0-to-127
returns-in-0-to-127 c =
    ap length (sym (utf8_by c.args.c (lt-ltb _ _ (omega arith)) refl refl))

pub returns-in-128-to-2047 : goal.returns-in-128-to-2047
returns-in-128-to-2047 c =
    ap length (sym (utf8_by c.args.c (le-ltb _ _ (omega arith)) (lt-ltb _ _ (omega arith)) refl))

pub returns-in-2048-to-65535 : goal.returns-in-2048-to-65535
returns-in-2048-to-65535 c =
    ap length (sym (utf8_by c.args.c (le-ltb _ _ (omega arith)) (le-ltb _ _ (omega arith)) (lt-ltb _ _ (omega arith))))

pub returns-in_default : goal.returns-in_default
returns-in_default c =
    ap length (sym (utf8_by c.args.c (le-ltb _ _ (omega arith)) (le-ltb _ _ (omega arith)) (le-ltb _ _ (omega arith))))
