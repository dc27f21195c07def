-- The table agrees with the test at each byte. Assumes nothing.
use native.Mathlib.Omega.{arith}
use mathlib.Core.Path.{refl}
use mathlib.Core.Bool.{false}
use lib.ListN.{get_or}
use Rattle.std.proofs.lemmas.Bool.{agree_below_at}
use Rattle.json_text.specs.Utf8.{between}
use Rattle.json_text.specs.Strings.{is_plain}
use Rattle.json_text.specs.declared.strings.TheConstants.{PLAIN}
use Rattle.json_text.proofs.strings.is_plain.Goals as goal

pub returns : goal.returns
unfolding is_plain between
returns c = agree_below_at (λ b. get_or PLAIN b false) is_plain 256 c.args.b refl (omega arith)
