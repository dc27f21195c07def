-- What serves the loop over a line's topics.
use Rattle.std.specs.Prelude.{ℕ, Bool, cond, Option, Some, None}
use Rattle.rule.specs.declared.Topic.{Topic}
use Rattle.rule.specs.declared.Topic.TheVariants.{Filter, Template, Eq, EqTemplate}

-- 1 for a template of this kind, else 0
unfoldable pub count_of : Bool → Option Topic → ℕ
count_of eq (Some (Filter p)) = 0
count_of eq (Some (Template p)) = cond eq 0 1
count_of eq (Some (Eq p)) = 0
count_of eq (Some (EqTemplate p)) = cond eq 1 0
count_of eq None = 0
