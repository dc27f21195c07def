-- Strings of a line, with their escapes: RFC 8259, section 7; document 01, "UTF-8 is checked; lone surrogates are refused".
use Rattle.std.specs.Prelude.{ℕ, zero, suc, ◌+◌, ◌-◌, ◌*◌, Bool, ◌&&◌, ◌||◌, not, cond, List, [], ◌∷◌, ◌++◌, eqb, ltb, take, drop, Option, None, Some, option_map}
use Rattle.text.specs.Maybe.{bind}
use Rattle.text.specs.Text.{begins}
use Rattle.json_text.specs.Utf8.{byte_at, between, sequence, utf8}
use Rattle.json_text.specs.declared.Piece.{Piece}
use Rattle.json_text.specs.declared.Piece.TheVariants.{Closes, Raw, Escaped}

abbrev pub quote : ℕ
quote = 0x22

abbrev pub backslash : ℕ
backslash = 0x5c

-- the value of a hexadecimal digit of either case
unfoldable pub hex_digit : ℕ → Option ℕ
hex_digit b =
    cond (between 0x30 0x39 b) (Some (b - 0x30))
    (cond (between 0x41 0x46 b) (Some (b - 0x41 + 10)) (cond (between 0x61 0x66 b) (Some (b - 0x61 + 10)) None))

-- the number that the first four bytes write in hexadecimal
unfoldable pub hex4 : List ℕ → Option ℕ
hex4 s =
    bind (hex_digit (byte_at s 0))
    (λ a.
    bind (hex_digit (byte_at s 1))
    (λ b. bind (hex_digit (byte_at s 2)) (λ c. bind (hex_digit (byte_at s 3)) (λ d. Some (a * 4096 + b * 256 + c * 16 + d)))))

-- the character of a short escape, by the byte behind the backslash
unfoldable pub short_escape : ℕ → Option ℕ
short_escape e =
    cond (eqb e quote || (eqb e backslash || eqb e 0x2f)) (Some e)
    (cond (eqb e 0x62) (Some 0x08)
    (cond (eqb e 0x66) (Some 0x0c) (cond (eqb e 0x6e) (Some 0x0a) (cond (eqb e 0x72) (Some 0x0d) (cond (eqb e 0x74) (Some 0x09) None)))))

-- the low surrogate that is written at the front, as `\u` and four digits
unfoldable pub low_surrogate : List ℕ → Option ℕ
low_surrogate s =
    cond (begins (backslash ∷ 0x75 ∷ []) s)
    (bind (hex4 (drop 2 s)) (λ low. cond (between 0xdc00 0xdfff low) (Some low) None))
    None

-- `\uXXXX`, from the digits on: "lone surrogates are refused"; a high surrogate and the low one behind it are one character
unfoldable pub unicode : List ℕ → Option Piece
unicode s =
    bind (hex4 s)
    (λ u.
    cond (between 0xd800 0xdbff u) (bind (low_surrogate (drop 4 s)) (λ low. Some (Escaped (0x10000 + (u - 0xd800) * 0x400 + (low - 0xdc00)) 12)))
    (cond (between 0xdc00 0xdfff u) None (Some (Escaped u 6))))

-- an escape, from the byte behind the backslash on
unfoldable pub escape : List ℕ → Option Piece
escape s =
    cond (eqb (byte_at s 0) 0x75) (unicode (drop 1 s)) (option_map (λ c. Escaped c 2) (short_escape (byte_at s 0)))

-- a character as it stands, of this many bytes
unfoldable pub raw_piece : Option ℕ → Option Piece
raw_piece o = option_map Raw o

-- a byte that is a character by itself, neither a quote nor a backslash
unfoldable pub is_plain : ℕ → Bool
is_plain b = not (eqb b quote) && (not (eqb b backslash) && between 0x20 0x7f b)

-- what a string has at the front of the bytes: its closing quote, a character as it stands, an escaped one, or nothing that may stand there
unfoldable pub piece_of : List ℕ → Option Piece
piece_of s =
    let b = byte_at s 0 in
    cond (eqb b quote) (Some Closes) (cond (eqb b backslash) (escape (drop 1 s)) (cond (ltb b 0x20) None (raw_piece (sequence s))))

-- a string: its decoded text, and how many bytes it takes, the closing quote among them and the opening one not
pub record Decoded : Type 0 where
  pub text : List ℕ
  pub size : ℕ

-- one byte more, which brings this text
unfoldable pub grown : List ℕ → Option Decoded → Option Decoded
grown text o = option_map (λ d. record { text = text ++ d.text; size = suc d.size }) o

-- the string whose opening quote stands before these bytes; the first `skip` bytes belong to a character that was read
unfoldable pub string_from : ℕ → List ℕ → Option Decoded
string_from skip [] = None
string_from (suc skip) (b ∷ s) = grown [] (string_from skip s)
string_from zero (b ∷ s) =
    elim (piece_of (b ∷ s)) [
      | Some Closes ↦ Some (record { text = []; size = 1 })
      | Some (Raw n) ↦ grown (take n (b ∷ s)) (string_from (n - 1) s)
      | Some (Escaped c n) ↦ grown (utf8 c) (string_from (n - 1) s)
      | None ↦ None
    ]

-- the string whose opening quote stands at this place
unfoldable pub string_at : List ℕ → ℕ → Option Decoded
string_at line at = cond (eqb (byte_at line at) quote) (string_from zero (drop (at + 1) line)) None
