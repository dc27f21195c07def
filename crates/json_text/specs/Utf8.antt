-- UTF-8 as RFC 3629 has it: no overlong form, no surrogate, nothing above U+10FFFF.
use Rattle.std.specs.Prelude.{ℕ, ◌+◌, ◌/◌, ◌%◌, Bool, ◌&&◌, ◌||◌, cond, List, [], ◌∷◌, eqb, leb, ltb, get_or, Option, Some, None, option_and_then}

-- no byte: what stands past the end
abbrev pub no_byte : ℕ
no_byte = 256

abbrev pub byte_at : List ℕ → ℕ → ℕ
byte_at s i = get_or s i no_byte

unfoldable pub between : ℕ → ℕ → ℕ → Bool
between low high b = leb low b && leb b high

-- section 4: the number of bytes of a sequence, by its first byte; none where no sequence begins so
unfoldable pub lead_size : ℕ → Option ℕ
lead_size a =
    cond (between 0x00 0x7f a) (Some 1)
    (cond (between 0xc2 0xdf a) (Some 2) (cond (between 0xe0 0xef a) (Some 3) (cond (between 0xf0 0xf4 a) (Some 4) None)))

-- the range of the second byte, by the first: E0 A0-BF, ED 80-9F, F0 90-BF, F4 80-8F, else 80-BF
unfoldable pub second : ℕ → ℕ → Bool
second a b = between (cond (eqb a 0xe0) 0xa0 (cond (eqb a 0xf0) 0x90 0x80)) (cond (eqb a 0xed) 0x9f (cond (eqb a 0xf4) 0x8f 0xbf)) b

-- UTF8-tail
unfoldable pub tail : ℕ → Bool
tail b = between 0x80 0xbf b

-- the bytes behind the first of a sequence of this many bytes are there and may stand there
abbrev pub followed : ℕ → List ℕ → Bool
followed n s = (leb n 1 || second (byte_at s 0) (byte_at s 1)) && ((leb n 2 || tail (byte_at s 2)) && (leb n 3 || tail (byte_at s 3)))

-- the number of bytes of the well-formed sequence at the front, if there is one
unfoldable pub sequence : List ℕ → Option ℕ
sequence s = option_and_then (λ n. cond (followed n s) (Some n) None) (lead_size (byte_at s 0))

-- section 3: a code point as bytes
unfoldable pub utf8 : ℕ → List ℕ
utf8 c =
    cond (ltb c 0x80) (c ∷ [])
    (cond (ltb c 0x800) ((0xc0 + c / 64) ∷ (0x80 + c % 64) ∷ [])
    (cond (ltb c 0x10000) ((0xe0 + c / 4096) ∷ (0x80 + c / 64 % 64) ∷ (0x80 + c % 64) ∷ [])
    ((0xf0 + c / 262144) ∷ (0x80 + c / 4096 % 64) ∷ (0x80 + c / 64 % 64) ∷ (0x80 + c % 64) ∷ [])))
