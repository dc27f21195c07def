-- Texts of the documents, written as they stand there, as bytes.
use Rattle.std.specs.Prelude.{ℕ, List, [], ◌∷◌}
use Prim.Native.Char.{code}
use Prim.Native.String.{String}
use Prim.Native.String as S

-- the bytes of a text whose characters are all ASCII
abbrev pub ascii : String → List ℕ
ascii S.[] = []
ascii (S.◌∷◌ c s) = code c ∷ ascii s
