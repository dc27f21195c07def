-- What the answer of `check` says of a line. Assumes nothing.
use Prim.Native.Nat.{ℕ}
use mathlib.Core.Path.{◌≡◌, refl}
use mathlib.Core.Bool.{Bool, false}
use Rattle.std.specs.Prelude.{Option, None, Some, is_some}
use lib.Dec.{leb}
use Rattle.json_text.specs.Json.{Json}
use Rattle.json_text.specs.Access.{checked, is_document, document_within}

pub checked_document : (o : Option Json) → is_some (checked o) ≡ is_document o
unfolding checked is_document
checked_document None = refl
checked_document (Some v) = refl

-- an answer that is at most so long
abbrev pub within : ℕ → Option ℕ → Bool
within most None = false
within most (Some n) = leb n most

pub checked_within : (most : ℕ) (o : Option Json) → within most (checked o) ≡ document_within most o
unfolding checked document_within
checked_within most None = refl
checked_within most (Some v) = refl
