-- A filter is valid exactly where one walk over its bytes says so, with the flag 'a level starts here'. The proof goes over `Leveled`:
-- the levels of a text as they grow byte by byte from its end. Assumes nothing.
use Prim.Native.Nat.{ℕ, zero, suc, ◌+◌, ◌<◌, ◌≤◌}
use native.Mathlib.Numerals.{add-one}
use native.Mathlib.Omega.{arith}
use mathlib.Core.Path.{◌≡◌, refl, sym, ◌∙◌}
use mathlib.Core.Bool.{Bool, true, false, ◌&&◌, ◌||◌, not, cond, true≢false, and-false}
use mathlib.Core.List.{List, [], ◌∷◌}
use lib.Dec.{eqb, eqb-zero-suc, eqb-suc-suc}
use lib.ListN.{length, get_or, drop, drop_of_length-le}
use lib.Seq.{drop-cons}
use borrow.Author.Tests.{eqb-true}
use Rattle.text.specs.Text.{same}
use Rattle.topic.specs.Topic.{Level, slash, plus, hash, extend_first, with_byte, levels, is_only, is_plus, is_hash, wildcard_free, is_last, valid_levels, valid_filter}

abbrev pub is_empty : List ℕ → Bool
is_empty [] = true
is_empty (b ∷ text) = false

-- a level that ends before this text ends with a separator or the filter
abbrev pub separated : List ℕ → Bool
separated [] = true
separated (b ∷ text) = eqb b slash

-- is the rest of a filter valid? `starts`: a level starts here
unfoldable pub scan : Bool → List ℕ → Bool
scan starts [] = true
scan starts (b ∷ text) =
    cond (eqb b slash) (scan true text)
    (cond (eqb b hash) (starts && is_empty text)
    (cond (eqb b plus) (starts && (separated text && scan false text)) (scan false text)))

-- the kinds of bytes
pub data Kind : ℕ → Type 0 where
  is_slash_byte : Kind slash
  is_hash_byte : Kind hash
  is_plus_byte : Kind plus
  is_other : (b : ℕ) → eqb b slash ≡ false → eqb b hash ≡ false → eqb b plus ≡ false → Kind b

pub kind : (b : ℕ) → Kind b
kind b = at (eqb b slash) (eqb b hash) (eqb b plus) refl refl refl
  where
    at : (s h p : Bool) → eqb b slash ≡ s → eqb b hash ≡ h → eqb b plus ≡ p → Kind b
    at true h p e f g = rw (eqb-true b slash e) is_slash_byte
    at false true p e f g = rw (eqb-true b hash f) is_hash_byte
    at false false true e f g = rw (eqb-true b plus g) is_plus_byte
    at false false false e f g = is_other b e f g

-- a text, its first level and its other levels
pub data Leveled : List ℕ → Level → List Level → Type 0 where
  nil : Leveled [] [] []
  start : {b : ℕ} {text : List ℕ} {level : Level} {rest : List Level} → eqb b slash ≡ true → Leveled text level rest → Leveled (b ∷ text) [] (level ∷ rest)
  inside : {b : ℕ} {text : List ℕ} {level : Level} {rest : List Level} → eqb b slash ≡ false → Leveled text level rest → Leveled (b ∷ text) (b ∷ level) rest

pub leveled : (text : List ℕ) → (level : Level) × (rest : List Level) × Leveled text level rest
leveled [] = ([], [], nil)
leveled (b ∷ text) = at (eqb b slash) refl (leveled text)
  where
    at : (s : Bool) → eqb b slash ≡ s → (level : Level) × (rest : List Level) × Leveled text level rest → (level : Level) × (rest : List Level) × Leveled (b ∷ text) level rest
    at true e d = ([], d.0 ∷ d.1, start e d.2)
    at false e d = (b ∷ d.0, d.1, inside e d.2)

pub leveled_levels : {text : List ℕ} {level : Level} {rest : List Level} → Leveled text level rest → levels text ≡ level ∷ rest
unfolding levels with_byte extend_first
leveled_levels nil = refl
leveled_levels (start e d) = rw (leveled_levels d, e)
leveled_levels (inside e d) = rw (leveled_levels d, e)

-- the first level is empty where the text ends or goes on with a separator
first_empty : {text : List ℕ} {level : Level} {rest : List Level} → Leveled text level rest → separated text ≡ same level []
unfolding same
first_empty nil = refl
first_empty (start e d) = e
first_empty (inside e d) = e

only_empty : {text : List ℕ} {level : Level} {rest : List Level} → Leveled text level rest → is_empty text ≡ (same level [] && is_last rest && valid_levels rest)
unfolding same valid_levels
only_empty nil = refl
only_empty (start e d) = refl
only_empty (inside e d) = refl

-- is the rest of a filter valid, by its levels?
valid_from : Bool → Level → List Level → Bool
valid_from starts level rest = (wildcard_free level || starts && (is_plus level || is_hash level && is_last rest)) && valid_levels rest

scan_from : {text : List ℕ} {level : Level} {rest : List Level} → Leveled text level rest → (starts : Bool) → scan starts text ≡ valid_from starts level rest
unfolding scan valid_from valid_levels wildcard_free is_only same
scan_from nil starts = refl
scan_from (start e d) starts = rw e (scan_from d true)
scan_from (inside {b} {text} {level} {rest} e d) starts = at (kind b) starts e (scan_from d false)
  where
    -- `+` wants the level to end here
    ended : (level : Level) (v : Bool) → (same level [] && ((wildcard_free level || false) && v)) ≡ ((same level [] || false) && v)
    ended [] v = refl
    ended (b ∷ level) v = refl

    at : {b : ℕ} → Kind b → (starts : Bool) → eqb b slash ≡ false → scan false text ≡ valid_from false level rest → scan starts (b ∷ text) ≡ valid_from starts (b ∷ level) rest
    at is_slash_byte starts e h = absurd (true≢false e)
    at is_hash_byte true e h = only_empty d
    at is_hash_byte false e h = refl
    at is_plus_byte true e h = rw (first_empty d, h) (ended level (valid_levels rest))
    at is_plus_byte false e h = refl
    at (is_other b s m p) starts e h = rw (s, m, p, and-false) h

-- the walk from the front decides validity
pub scan_valid : (text : List ℕ) → scan true text ≡ valid_filter text
unfolding valid_filter valid_levels valid_from
scan_valid text = let d = leveled text in rw (leveled_levels d.2) (scan_from d.2 true)

-- what is left of the text, at a place
empty_at : (text : List ℕ) (i : ℕ) → i ≤ length text → is_empty (drop i text) ≡ eqb i (length text)
empty_at [] zero h = refl
empty_at [] (suc i) h = absurd (omega arith)
empty_at (b ∷ text) zero h = sym (eqb-zero-suc (length text))
empty_at (b ∷ text) (suc i) h = empty_at text i (omega arith) ∙ sym (eqb-suc-suc i (length text))

separated_at : (text : List ℕ) (i : ℕ) → i ≤ length text → separated (drop i text) ≡ (eqb i (length text) || eqb (get_or text i 0) slash)
separated_at [] zero h = refl
separated_at [] (suc i) h = absurd (omega arith)
separated_at (b ∷ text) zero h = rw (eqb-zero-suc (length text)) refl
separated_at (b ∷ text) (suc i) h = separated_at text i (omega arith) ∙ rw (eqb-suc-suc i (length text)) refl

-- the walk's turn at a byte
scan_byte : (b : ℕ) (text : List ℕ) (starts : Bool)
    → scan starts (b ∷ text) ≡ cond (eqb b hash) (starts && is_empty text) (cond (eqb b plus && not (starts && separated text)) false (scan (eqb b slash) text))
unfolding scan
scan_byte b text starts = at (kind b) starts (separated text)
  where
    at : {b : ℕ} → Kind b → (s t : Bool)
        → cond (eqb b slash) (scan true text) (cond (eqb b hash) (s && is_empty text) (cond (eqb b plus) (s && (t && scan false text)) (scan false text)))
        ≡ cond (eqb b hash) (s && is_empty text) (cond (eqb b plus && not (s && t)) false (scan (eqb b slash) text))
    at is_slash_byte s t = refl
    at is_hash_byte s t = refl
    at is_plus_byte true true = refl
    at is_plus_byte true false = refl
    at is_plus_byte false t = refl
    at (is_other b e m p) s t = rw (e, m, p) refl

-- the same at a place of the text, and at its end
pub scan_at : (text : List ℕ) (i : ℕ) (starts : Bool) → i < length text
    → scan starts (drop i text)
    ≡ cond (eqb (get_or text i 0) hash) (starts && eqb (i + 1) (length text))
    (cond (eqb (get_or text i 0) plus && not (starts && (eqb (i + 1) (length text) || eqb (get_or text (i + 1) 0) slash))) false
    (scan (eqb (get_or text i 0) slash) (drop (i + 1) text)))
scan_at text i starts h =
    rw (add-one, drop-cons text i 0 h, ← separated_at text (suc i) (omega arith), ← empty_at text (suc i) (omega arith)) (scan_byte _ _ _)

pub scan_end : (text : List ℕ) (i : ℕ) (starts : Bool) → length text ≤ i → scan starts (drop i text) ≡ true
unfolding scan
scan_end text i starts h = rw (drop_of_length-le text {i = i} h) refl
