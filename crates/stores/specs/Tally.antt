-- How many cases there were, and how many came out as they have to.
use Rattle.std.specs.Prelude.{ℕ, ◌+◌, ◌%◌, ◌^◌, Bool, cond}
use Rattle.stores.specs.declared.tally.Tally.{Tally}

-- one more, in 64 bits
abbrev pub one_more : ℕ → ℕ
one_more n = (n + 1) % 2 ^ 64

-- one more case, and whether it came out as it has to
abbrev pub counted : Tally → Bool → Tally
counted t right = record { right = cond right (one_more t.right) t.right; all = one_more t.all }
