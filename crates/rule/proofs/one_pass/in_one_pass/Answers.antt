-- The rule, behind the line's access. Assumes nothing.
use mathlib.Core.Path.{sym}
use Rattle.rule.proofs.FrontLaws.{access_to, access_rule}
use Rattle.rule.proofs.OnePassLaws.{rule_map}
use Rattle.rule.proofs.one_pass.in_one_pass.Goals as goal

pub returns : goal.returns
returns c = rule_map c.from_users.result (λ rule h. access_rule (access_to c.args.line.now (sym c.in_ok-access_end.ensures)) h) c.from_users.ensures
