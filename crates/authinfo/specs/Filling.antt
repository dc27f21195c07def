-- A topic whose only `$` begins one of the words that are filled.
use Rattle.std.specs.Prelude.{ℕ, suc, ◌+◌, Bool, ◌&&◌, cond, List, [], ◌∷◌, ◌++◌, eqb, length, take, drop}
use Rattle.text.specs.Text.{begins}

abbrev pub dollar : ℕ
dollar = 0x24

-- the number of bytes before the first `$`
unfoldable pub before_dollar : List ℕ → ℕ
before_dollar [] = 0
before_dollar (b ∷ text) = cond (eqb b dollar) 0 (suc (before_dollar text))

-- the place of the first `$` from this place on, or the text's end
unfoldable pub dollar_from : List ℕ → ℕ → ℕ
dollar_from text at = at + before_dollar (drop at text)

-- the bytes of `${username}`, and of `${clientid}`
abbrev pub word_length : ℕ
word_length = 11

-- does the word stand at this place, with no `$` behind it?
unfoldable pub stands_last : List ℕ → ℕ → List ℕ → Bool
stands_last text at word = begins word (drop at text) && eqb (dollar_from text (at + word_length)) (length text)

-- the text with another for the word at this place
unfoldable pub word_put : List ℕ → ℕ → List ℕ → List ℕ
word_put text at new = take at text ++ (new ++ drop (at + word_length) text)
