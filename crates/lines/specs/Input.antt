-- Input in pieces: how the bytes of a line, and of the rules, are gathered in a buffer (document 01, JSON line, "LF ends a line and isn't
-- counted in its length; the last may lack it"; Marked examples, "standard input is rule lines, an empty line, event lines").
use Rattle.std.specs.Prelude.{ℕ, ◌+◌, ◌&&◌, cond, List, eqb, ltb, length, set, Option, None, Some}
use Rattle.lines.specs.declared.Taken.{Taken}
use Rattle.lines.specs.declared.Taken.TheVariants.{Part, Line}
use Rattle.lines.specs.declared.Rules.{Rules}
use Rattle.lines.specs.declared.RulesTaken.{RulesTaken}
use Rattle.lines.specs.declared.RulesTaken.TheVariants.{Part as RulesPart, Whole, TooLong}

-- the length of a line that has begun, of which the buffer has so many bytes; a line that is longer than the buffer is only known to be so
abbrev pub Begun : Type 0
Begun = Option ℕ

-- the line with a byte more
unfoldable pub longer : Begun → ℕ → Begun
longer None room = None
longer (Some n) room = cond (ltb n room) (Some (n + 1)) None

-- one byte more: an LF ends the line
unfoldable pub taken : Begun → ℕ → ℕ → Taken
taken begun room b = cond (eqb b 10) (Line begun) (Part (longer begun room))

-- the buffer with a byte of the line, if it has room there
unfoldable pub put : Begun → List ℕ → ℕ → List ℕ
put None buffer b = buffer
put (Some n) buffer b = cond (ltb n (length buffer)) (set buffer n b) buffer

-- the buffer with that byte; an LF isn't kept
unfoldable pub kept : Begun → List ℕ → ℕ → List ℕ
kept begun buffer b = cond (eqb b 10) buffer (put begun buffer b)

-- one byte more of the rules, which end at an empty line: an LF where a line begins. `fresh` says that one does
unfoldable pub rules_taken : Rules → ℕ → ℕ → RulesTaken
rules_taken rules room b =
    cond (eqb b 10 && rules.fresh) (Whole rules.length)
    (cond (ltb rules.length room) (RulesPart (record { length = rules.length + 1; fresh = eqb b 10 })) TooLong)

unfoldable pub rules_kept : Rules → List ℕ → ℕ → List ℕ
rules_kept rules buffer b =
    cond (eqb b 10 && rules.fresh) buffer (cond (ltb rules.length (length buffer)) (set buffer rules.length b) buffer)
