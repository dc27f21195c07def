-- By what `check` answers. Assumes nothing.
use Rattle.std.proofs.Common.{ℕ, Bool, false, ◌≡◌, Option, Some, None, ap, ◌∙◌, rules, tests, nat_le}
use Rattle.json_text.specs.Json.{line_value}
use Rattle.json_text.proofs.DocumentLaws.{within, checked_within}
use Rattle.std.specs.Option.{MatchOption}
use Rattle.json_text.proofs.values.is_document_within.Goals as goal

pub returns : goal.returns
returns c =
    let told : MatchOption c.check.result (c.is_some_and.result ≡ false) (λ n. c.is_some_and.result ≡ nat_le n c.args.most) = search (rules, tests) in
    by c.args.most c.check.result told ∙ (ap (within c.args.most) c.check.ensures ∙ checked_within c.args.most (line_value c.args.line.now))
  where
    by : {r : Bool} (most : ℕ) (o : Option ℕ) → MatchOption o (r ≡ false) (λ n. r ≡ nat_le n most) → r ≡ within most o
    by most None h = h
    by most (Some n) h = h
