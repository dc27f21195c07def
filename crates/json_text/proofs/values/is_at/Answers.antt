-- The byte that `get` gives, or none, which no byte equals. Assumes nothing.
use Rattle.std.proofs.Common.{ℕ, ◌≡◌, ◌<◌, Bool, Option, Some, None, Bor, sym, ap, ◌∙◌, eqb, arith}
use Rattle.std.specs.Option.{option_eq, option_map, unwrap_or}
use borrow.Author.Tests.{ne_eqb}
use Rattle.json_text.specs.Utf8.{no_byte}
use Rattle.json_text.specs.Json.{is_at}
use Rattle.json_text.proofs.values.is_at.Goals as goal

told : {r : Bool} (y : Bor ℕ) (o : Option (Bor ℕ)) → y.now < 256 → r ≡ option_eq (λ (u v : Bor ℕ). eqb u.now v.now) o (Some y)
    → r ≡ eqb (unwrap_or (option_map (λ (u : Bor ℕ). u.now) o) no_byte) y.now
told y None h e = e ∙ sym (ne_eqb no_byte y.now (λ k. omega arith))
told y (Some x) h e = e

pub returns : goal.returns
unfolding is_at
returns c =
    told _ c.get.result c.ranges.b.fits c.eq.ensures
    ∙ ap (λ (k : ℕ). eqb k c.args.b) (c.get.ensures.lookup.4 (omega arith) no_byte)
