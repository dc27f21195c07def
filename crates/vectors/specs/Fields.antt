-- A recorded line: its fields have a TAB between them (oracle/README.md).
use Rattle.std.specs.Prelude.{ℕ, zero, suc, ◌+◌, ◌-◌, Bool, false, cond, Option, List, [], ◌∷◌, drop, ◌==◌, slice_index}
use Rattle.std.specs.Option.{unwrap_or}
use Rattle.std.specs.List.{slice_split, slice_get}
use Rattle.rule.specs.Identity as identity
use Rattle.mqtt_acl.specs.Rules.{where_true, flag}
use Rattle.vectors.specs.declared.fields.Lent.{Lent}
use Rattle.vectors.specs.declared.fields.Client.{Client}

abbrev pub is_tab : ℕ → Bool
is_tab b = b == 9

-- what stands behind the first n TABs; nothing where there are fewer
unfoldable pub rest : ℕ → List ℕ → List ℕ
rest zero line = line
rest (suc n) [] = []
rest (suc n) (b ∷ line) = cond (is_tab b) (rest n line) (rest (suc n) line)

-- the field behind n TABs; an empty one where there are fewer
unfoldable pub field : ℕ → List ℕ → List ℕ
field n line = unwrap_or (slice_get (slice_split is_tab line) n) []

-- an optional value is given if `=` stands before it; `-` before one that is lent all the same
unfoldable pub is_given : List ℕ → Bool
is_given [] = false
is_given (b ∷ text) = b == 61

-- the value behind that byte
unfoldable pub lent : List ℕ → List ℕ
lent text = drop 1 text

-- the text of an optional field, where it is given
unfoldable pub text_in : List ℕ → Option (List ℕ)
text_in text = where_true (is_given text) (lent text)

-- the text as a number: its first byte, 0 where there is none
unfoldable pub number : List ℕ → ℕ
number text = slice_index text 0

-- the same of a digit
unfoldable pub digit : List ℕ → ℕ
digit text = number text - 48

-- the client in five fields of a line, from the one behind n TABs on: id, name, password, address, and a protocol, which is a number or a digit
unfoldable pub client : (List ℕ → ℕ) → ℕ → List ℕ → identity.Client
client number n line =
    record { id = field n line; name = text_in (field (n + 1) line); password = text_in (field (n + 2) line); address = text_in (field (n + 3) line); protocol = where_true (is_given (field (n + 4) line)) (number (lent (field (n + 4) line))) }

-- an optional value as the exported functions take it
abbrev pub seen_text : Lent → Option (List ℕ)
seen_text l = where_true (flag l.has) l.text.now

-- the client that they make of these
abbrev pub seen : (List ℕ → ℕ) → Client → identity.Client
seen number c =
    record { id = c.id.now; name = seen_text c.name; password = seen_text c.password; address = seen_text c.address; protocol = where_true (flag c.protocol.has) (number c.protocol.text.now) }
