-- Topic names, topic filters and their matching, as section 4.7 of OASIS MQTT has them: written from its rules alone. The numbers are
-- those of 3.1.1, with those of 5.0 behind a bar where they differ.
-- A text is the list of its bytes in UTF-8. The characters that 4.7 names are ASCII: each is one byte, which is part of no other
-- character, so their places among the bytes say all that is said of them here. Nothing below asks that the bytes be UTF-8, so what
-- is proved of it holds for all bytes.
use Rattle.std.specs.Prelude.{ℕ, suc, ◌≤◌, ◌≡◌, ◌⊎◌, List, [], ◌∷◌, ◌++◌, length}
use Rattle.std.proofs.Math.Option.{some}
use Rattle.std.proofs.Math.ListN.{get_elem?}

-- the topic level separator, the multi-level and the single-level wildcard, and the character of 4.7.2
abbrev pub separator : ℕ
separator = 0x2f

abbrev pub multi : ℕ
multi = 0x23

abbrev pub single : ℕ
single = 0x2b

abbrev pub dollar : ℕ
dollar = 0x24

-- this character stands at this place
abbrev pub At : List ℕ → ℕ → ℕ → Type 0
At text i c = get_elem? text i ≡ some c

-- 4.7.1.1: "/" separates levels. The places where a level starts
pub data StartsLevel (text : List ℕ) : ℕ → Type 0 where
  first : StartsLevel text 0
  next : (i : ℕ) → At text i separator → StartsLevel text (suc i)

-- the places that a separator or the end of the text follows
pub data EndsLevel (text : List ℕ) : ℕ → Type 0 where
  last : (i : ℕ) → suc i ≡ length text → EndsLevel text i
  ahead : (i : ℕ) → At text (suc i) separator → EndsLevel text i

-- 4.7.3, of names and filters alike
pub record Characters (text : List ℕ) : Type 0 where
  -- [MQTT-4.7.3-1]: at least one character
  pub some_character : 1 ≤ length text
  -- [MQTT-4.7.3-2]: no U+0000
  pub no_null : (i : ℕ) → At text i 0 → ⊥

-- [MQTT-4.7.3-3]: at most 65,535 bytes. A predicate of its own: 4.7's names are `Name` and `Short`, its filters `Filter` and `Short`,
-- and what is proved of `Name` and `Filter` holds at every length
abbrev pub Short : List ℕ → Type 0
Short text = length text ≤ 65535

-- a topic filter
pub record Filter (text : List ℕ) : Type 0 where
  pub characters : Characters text
  -- [MQTT-4.7.1-2 | MQTT-4.7.1-1]: "#" stands on its own or right after a separator, and is the last character
  pub multi_level : (i : ℕ) → At text i multi → StartsLevel text i × (suc i ≡ length text)
  -- [MQTT-4.7.1-3 | MQTT-4.7.1-2]: "+" may stand at any level, and is then the whole of it
  pub single_level : (i : ℕ) → At text i single → StartsLevel text i × EndsLevel text i

-- a topic name
pub record Name (text : List ℕ) : Type 0 where
  pub characters : Characters text
  -- [MQTT-4.7.1-1 | MQTT-4.7.0-1]: no wildcard characters
  pub no_multi : (i : ℕ) → At text i multi → ⊥
  pub no_single : (i : ℕ) → At text i single → ⊥

-- 4.7.1.1: a text's levels are the pieces between its separators; two next to each other have a level of zero length between them
pub data Splits : List ℕ → List (List ℕ) → Type 0 where
  one : (level : List ℕ) → ((i : ℕ) → At level i separator → ⊥) → Splits level (level ∷ [])
  more :
      (level rest : List ℕ) (levels : List (List ℕ)) →
      ((i : ℕ) → At level i separator → ⊥) →
      Splits rest levels →
      Splits (level ++ (separator ∷ rest)) (level ∷ levels)

-- a level without a wildcard
pub record Literal (level : List ℕ) : Type 0 where
  pub no_multi : (i : ℕ) → At level i multi → ⊥
  pub no_single : (i : ℕ) → At level i single → ⊥

-- the filter's levels take the name's, level by level
pub data Takes : List (List ℕ) → List (List ℕ) → Type 0 where
  nothing : Takes [] []
  -- [MQTT-4.7.3-4]: nothing is normalised, a level without a wildcard takes the level that is equal to it, character for character
  equal : (level : List ℕ) {filter name : List (List ℕ)} → Literal level → Takes filter name → Takes (level ∷ filter) (level ∷ name)
  -- 4.7.1.3: "+" takes exactly one level
  single_level : (level : List ℕ) {filter name : List (List ℕ)} → Takes filter name → Takes ((single ∷ []) ∷ filter) (level ∷ name)
  -- 4.7.1.2: "#" takes the parent level and any number of levels below it
  multi_level : (name : List (List ℕ)) → Takes ((multi ∷ []) ∷ []) name

-- the topic filter matches the topic name, where they are a `Filter` and a `Name`
pub record Matches (filter name : List ℕ) : Type 0 where
  pub filter_levels : List (List ℕ)
  pub name_levels : List (List ℕ)
  pub splits_filter : Splits filter filter_levels
  pub splits_name : Splits name name_levels
  pub takes : Takes filter_levels name_levels
  -- [MQTT-4.7.2-1]: a filter that starts with a wildcard does not match a name that begins with "$"
  pub no_dollar : At filter 0 multi ⊎ At filter 0 single → At name 0 dollar → ⊥
