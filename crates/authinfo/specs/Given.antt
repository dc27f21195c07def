-- Document 01, "Code places and their forms": "The optional name is an enum with its length, beside the slice". A length past the slice's end
-- means the whole slice.
use Rattle.std.specs.Prelude.{ℕ, List, take, Option, None, Some}

unfoldable pub given : Option ℕ → List ℕ → Option (List ℕ)
given None lent = None
given (Some n) lent = Some (take n lent)
