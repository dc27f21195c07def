-- Laws of the words of `specs/Rule.antt` and `specs/Places.antt`. Assumes nothing.
use Prim.Native.Nat.{ℕ, ◌≤◌, ◌<◌}
use mathlib.Core.Path.{◌≡◌, refl, sym, ap, ◌∙◌}
use mathlib.Core.Bool.{Bool, false, ◌&&◌, cond}
use mathlib.Core.List.{List, [], ◌∷◌, map}
use Rattle.std.specs.List.{list_all, zip}
use Rattle.std.specs.Prelude.{None, Some, option_and_then}
use native.Mathlib.Omega.{arith}
use lib.Dec.{eqb}
use lib.ListN.{length, length-map}
use Rattle.text.specs.Ascii.{ascii}
use Rattle.text.specs.Text.{same}
use Rattle.text.proofs.Laws.{same_lengths}
use Rattle.json_text.specs.Strings.{Decoded, string_at}
use Rattle.rule.specs.Rule.{lower, is_word}
use Rattle.rule.specs.Places.{word_of, word_at}
use Rattle.rule.specs.declared.Word.TheVariants.{Allow, Deny, All, Connect, Publish, Subscribe, Pubsub}

-- ---- a letter and a word

-- a word of another length is another word
pub word_lengths : (word t : List ℕ) → (length t ≡ length word → ⊥) → is_word word t ≡ false
unfolding is_word
word_lengths word t h = same_lengths (map lower t) word (λ e. h (sym (length-map t lower) ∙ e))

-- of one length, it is the word where each byte, lowered, is the word's
pub word_bytes : (word t : List ℕ) → length t ≡ length word → list_all (λ (p : ℕ × ℕ). eqb (lower p.0) p.1) (zip t word) ≡ is_word word t
unfolding is_word same
word_bytes [] [] h = refl
word_bytes [] (b ∷ t) h = absurd (omega arith)
word_bytes (w ∷ word) [] h = absurd (omega arith)
word_bytes (w ∷ word) (b ∷ t) h = ap (λ (rest : Bool). eqb (lower b) w && rest) (word_bytes word t (omega arith))

-- ---- the words of a rule

pub word_by :
    (t : List ℕ) {a b c d e f g : Bool} → is_word (ascii "allow") t ≡ a → is_word (ascii "deny") t ≡ b → is_word (ascii "all") t ≡ c
    → is_word (ascii "connect") t ≡ d → is_word (ascii "publish") t ≡ e → is_word (ascii "subscribe") t ≡ f → is_word (ascii "pubsub") t ≡ g
    → word_of t ≡ cond a (Some Allow) (cond b (Some Deny) (cond c (Some All) (cond d (Some Connect) (cond e (Some Publish) (cond f (Some Subscribe) (cond g (Some Pubsub) None))))))
unfolding word_of
word_by t a b c d e f g =
    λ i. cond (a i) (Some Allow) (cond (b i) (Some Deny) (cond (c i) (Some All) (cond (d i) (Some Connect) (cond (e i) (Some Publish) (cond (f i) (Some Subscribe) (cond (g i) (Some Pubsub) None))))))

-- no word is longer than nine bytes
pub word_long : (t : List ℕ) → 9 < length t → word_of t ≡ None
word_long t h =
    word_by t
    (shorter (ascii "allow") (omega arith))
    (shorter (ascii "deny") (omega arith))
    (shorter (ascii "all") (omega arith))
    (shorter (ascii "connect") (omega arith))
    (shorter (ascii "publish") (omega arith))
    (shorter (ascii "subscribe") (omega arith))
    (shorter (ascii "pubsub") (omega arith))
  where
    shorter : (word : List ℕ) → length word ≤ 9 → is_word word t ≡ false
    shorter word k = word_lengths word t (λ (e : length t ≡ length word). omega arith)

pub word_nowhere : (line : List ℕ) (at : ℕ) → string_at line at ≡ None → word_at line at ≡ None
unfolding word_at
word_nowhere line at e = ap (option_and_then (λ (d : Decoded). word_of d.text)) e

pub word_here : (line : List ℕ) (at : ℕ) {d : Decoded} → string_at line at ≡ Some d → word_at line at ≡ word_of d.text
unfolding word_at
word_here line at e = ap (option_and_then (λ (d : Decoded). word_of d.text)) e
