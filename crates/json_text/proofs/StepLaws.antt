-- The cursor behind a leaf, by what was scanned: a number's digits, a word, a string, a name. Assumes nothing.
use Prim.Native.Nat.{ℕ, ◌+◌, max}
use native.Mathlib.Nat.{max-zero}
use mathlib.Core.Path.{◌≡◌, refl, sym, ap, ◌∙◌}
use mathlib.Core.Bool.{Bool, true, false, cond}
use mathlib.Core.List.{List}
use Rattle.std.specs.Prelude.{Option, None, Some, option_map, option_and_then}
use Rattle.text.specs.Maybe.{bind}
use lib.ListN.{length, drop}
use Rattle.text.specs.Ascii.{ascii}
use Rattle.text.specs.Text.{begins}
use Rattle.json_text.specs.Strings.{Decoded, string_at}
use Rattle.json_text.specs.Json.{Json, null, bool, Read, is_at, skip_blanks, word_at, text_at, name_at, longest}
use Rattle.json_text.specs.Access.{stepped, scanned, literal_is, literal_of, word_size, no_string}
use Rattle.json_text.specs.declared.Literal.{Literal}
use Rattle.json_text.specs.declared.Literal.TheVariants.{Null, True, False}
use Rattle.json_text.proofs.ScanLaws.{words}
use Rattle.json_text.specs.declared.Cursor.{Cursor}

-- a number
pub number_stepped : (before : ℕ) (o : Option (Read ℕ)) → option_map (λ (r : Read ℕ). record { at = r.next; longest = before }) o ≡ stepped no_string before o
unfolding stepped
number_stepped before None = refl
number_stepped before (Some r) = λ i. Some (record { at = r.next; longest = sym (max-zero before) i })

-- the word that a literal is
abbrev pub word_value : Literal → Json
word_value Null = null
word_value True = bool true
word_value False = bool false

abbrev pub word_of : ℕ → Literal → Read Json
word_of at w = record { value = word_value w; next = at + word_size w }

pub literal_told : (line : List ℕ) (at : ℕ) {l : Option Literal} → literal_of (word_at line at) ≡ l → word_at line at ≡ option_map (word_of at) l
unfolding word_at literal_of literal_is
literal_told line at e =
    by (begins (ascii "null") (drop at line)) (begins (ascii "true") (drop at line)) (begins (ascii "false") (drop at line)) ∙ ap (option_map (word_of at)) e
  where
    by : (n t f : Bool) → words at n t f ≡ option_map (word_of at) (literal_of (words at n t f))
    by true t f = refl
    by false true f = refl
    by false false true = refl
    by false false false = refl

pub word_stepped : (before : ℕ) (line : List ℕ) (at : ℕ) {l : Option Literal} → literal_of (word_at line at) ≡ l
    → option_map (λ (w : Literal). record { at = at + word_size w; longest = before }) l ≡ stepped longest before (word_at line at)
unfolding stepped longest
word_stepped before line at {l} e = by l ∙ sym (ap (stepped longest before) (literal_told line at e))
  where
    by : (l : Option Literal) → option_map (λ (w : Literal). record { at = at + word_size w; longest = before }) l ≡ stepped longest before (option_map (word_of at) l)
    by (Some Null) = λ i. Some (record { at = at + 4; longest = sym (max-zero before) i })
    by (Some True) = λ i. Some (record { at = at + 4; longest = sym (max-zero before) i })
    by (Some False) = λ i. Some (record { at = at + 5; longest = sym (max-zero before) i })
    by None = refl

-- a string
pub text_stepped : (before : ℕ) (line : List ℕ) (at : ℕ)
    → option_map (λ (r : Read ℕ). record { at = r.next; longest = max before r.value }) (scanned at (string_at line at)) ≡ stepped length before (text_at line at)
unfolding stepped text_at bind scanned
text_stepped before line at = by (string_at line at)
  where
    by : (o : Option Decoded)
        → option_map (λ (r : Read ℕ). record { at = r.next; longest = max before r.value }) (scanned at o)
        ≡ stepped length before (bind o (λ d. Some (record { value = d.text; next = at + 1 + d.size })))
    by None = refl
    by (Some d) = refl

-- a name, by the cursor behind its string
abbrev pub behind_name : List ℕ → Option Cursor → Option Cursor
behind_name line o =
    option_and_then (λ (c : Cursor). cond (is_at line (skip_blanks line c.at) 0x3a) (Some (record { at = skip_blanks line (skip_blanks line c.at + 1); longest = c.longest })) None) o

pub name_stepped : (before : ℕ) (line : List ℕ) (at : ℕ) → stepped length before (name_at line at) ≡ behind_name line (stepped length before (text_at line at))
unfolding stepped name_at bind
name_stepped before line at = by (text_at line at)
  where
    colon : (t : Read (List ℕ)) (b : Bool)
        → stepped length before (cond b (Some (record { value = t.value; next = skip_blanks line (skip_blanks line t.next + 1) })) None)
        ≡ cond b (Some (record { at = skip_blanks line (skip_blanks line t.next + 1); longest = max before (length t.value) })) None
    colon t true = refl
    colon t false = refl

    by : (o : Option (Read (List ℕ)))
        → stepped length before
        (bind o (λ name. let p = skip_blanks line name.next in cond (is_at line p 0x3a) (Some (record { value = name.value; next = skip_blanks line (p + 1) })) None))
        ≡ behind_name line (stepped length before o)
    by None = refl
    by (Some t) = colon t (is_at line (skip_blanks line t.next) 0x3a)
