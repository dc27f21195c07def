-- A line of output: document 01, Marked examples, "Output: event number, word .., deciding rule from 1, or 0; after error the number";
-- "Refused rules print only `0 error`, the number and the line, 0 if none".
use Rattle.std.specs.Prelude.{ℕ, zero, suc, ◌+◌, ◌/◌, ◌%◌, cond, List, [], ◌∷◌, ◌++◌, ltb, length, Option, Some, None}
use Rattle.text.specs.Ascii.{ascii}
use Rattle.text.specs.Text.{fits_at}
use Rattle.lines.specs.declared.Word.{Word}
use Rattle.lines.specs.declared.Word.TheVariants.{Done, Kept, Allow, Super, Refuse, Drop, NoDecision, Error}
use Rattle.lines.specs.declared.Said.{Said}

-- a number in decimal, without leading zeros: its last digits, where it has more than so many
unfoldable pub decimal_up_to : ℕ → ℕ → List ℕ
decimal_up_to zero n = []
decimal_up_to (suc most) n = cond (ltb n 10) ((48 + n) ∷ []) (decimal_up_to most (n / 10) ++ ((48 + n % 10) ∷ []))

-- numbers up to 18446744073709551615 have at most 20, so that these are all of theirs
unfoldable pub decimal : ℕ → List ℕ
decimal n = decimal_up_to 20 n

-- the words; `none` is a per-client question's
unfoldable pub word_text : Word → List ℕ
word_text Done = ascii "done"
word_text Kept = ascii "kept"
word_text Allow = ascii "allow"
word_text Super = ascii "super"
word_text Refuse = ascii "refuse"
word_text Drop = ascii "drop"
word_text NoDecision = ascii "none"
word_text Error = ascii "error"

abbrev pub blank : List ℕ
blank = 32 ∷ []

-- the line that an error is of, where it has one
unfoldable pub line_text : Option ℕ → List ℕ
line_text None = []
line_text (Some n) = blank ++ decimal n

-- "event number, word .., deciding rule from 1, or 0; after error the number": the line of output, its LF behind it
unfoldable pub output_line : ℕ → Said → List ℕ
output_line n said =
    decimal n ++ (blank ++ (word_text said.word ++ (blank ++ (decimal said.number ++ (line_text said.line ++ (10 ∷ []))))))

-- the place behind a text that is put at a place of a buffer, if it has room there
unfoldable pub put_at : ℕ → List ℕ → List ℕ → Option ℕ
put_at at t buffer = cond (fits_at at t buffer) (Some (at + length t)) None
