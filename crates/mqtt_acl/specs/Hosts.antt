-- The used rows of a store as one number.
use Rattle.std.specs.Prelude.{ℕ, ◌+◌, ◌*◌, Option, None, Some}
use Rattle.hosting.specs.declared.Used.{Used}

-- each count in 16 bits; the largest number where there is none
abbrev pub malformed_number : ℕ
malformed_number = 18446744073709551615

unfoldable pub used_number : Option Used → ℕ
used_number None = malformed_number
used_number (Some u) = u.filters + 65536 * u.eqs + 4294967296 * u.notes
