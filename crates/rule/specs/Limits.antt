-- The limits of rules and rule texts, from document 01, each written once.
use Rattle.std.specs.Prelude.{ℕ}

-- "over 2,048 bytes": a line
abbrev pub line_limit : ℕ
line_limit = 2048

-- "over 256 bytes": a decoded string, a topic, a filled text
abbrev pub text_limit : ℕ
text_limit = 256

-- "over 64": the topics of a rule
abbrev pub topics_limit : ℕ
topics_limit = 64

-- "over 256 lines"
abbrev pub lines_limit : ℕ
lines_limit = 256

-- "id or name over 64"
abbrev pub id_limit : ℕ
id_limit = 64
