-- Validity by places: a filter is valid exactly where each wildcard stands at a place that 4.7 allows. `scan` is two walks, one for each
-- wildcard, and a walk is read place by place: a place of `b ∷ text` is 0 or one more than a place of `text`. Assumes nothing.
use Prim.Native.Nat.{ℕ, zero, suc}
use native.Mathlib.Omega.{arith}
use mathlib.Core.Path.{◌≡◌, refl, sym, ap}
use mathlib.Core.Bool.{Bool, true, false, ◌&&◌, ◌||◌, not, true≢false, and-false, and-eq-true_iff}
use mathlib.Core.Logic.Iff
use mathlib.Core.Logic.{◌↔◌}
use mathlib.Core.List.{List, [], ◌∷◌}
use mathlib.Core.Option.{some, some-injective, none-ne-some}
use lib.Dec.{eqb}
use lib.ListN.{length}
use borrow.Author.Tests.{eqb-true, eq-eqb}
use Rattle.topic.specs.Topic.{slash, plus, hash, valid_filter}
use Rattle.topic.specs.Mqtt47.{separator, multi, single, At, StartsLevel, first, next, EndsLevel, last, ahead}
use Rattle.topic.proofs.Scan.{is_empty, separated, scan, scan_valid, Kind, is_slash_byte, is_hash_byte, is_plus_byte, is_other, kind}

-- the first byte, by test and by place
pub at_front : (b c : ℕ) (text : List ℕ) → (eqb b c ≡ true) ↔ At (b ∷ text) 0 c
at_front b c text = (λ e. ap some (eqb-true b c e), λ a. eq-eqb b c (some-injective b c a))

-- the walk for one wildcard, which stands at the start of a level and before a text that is `ok`
module _ (c : ℕ) (ok : List ℕ → Bool) where
  walk : Bool → List ℕ → Bool
  walk starts [] = true
  walk starts (b ∷ text) = (not (eqb b c) || starts && ok text) && walk (eqb b slash) text

scan_walks : (text : List ℕ) (starts : Bool) → scan starts text ≡ (walk hash is_empty starts text && walk plus separated starts text)
unfolding scan walk
scan_walks [] starts = refl
scan_walks (b ∷ text) starts = at (kind b) text starts (scan_walks text)
  where
    swap : (a s h p : Bool) → s ≡ (h && p) → (a && s) ≡ (h && (a && p))
    swap true s h p e = e
    swap false s h p e = sym (and-false h)

    at :
        {b : ℕ} → Kind b → (text : List ℕ) (starts : Bool) → ((t : Bool) → scan t text ≡ (walk hash is_empty t text && walk plus separated t text)) →
        scan starts (b ∷ text) ≡ (walk hash is_empty starts (b ∷ text) && walk plus separated starts (b ∷ text))
    at is_slash_byte text starts h = h true
    at is_hash_byte [] true h = refl
    at is_hash_byte (c ∷ text) true h = refl
    at is_hash_byte text false h = refl
    at is_plus_byte text true h = swap (separated text) (scan false text) (walk hash is_empty false text) (walk plus separated false text) (h false)
    at is_plus_byte text false h = sym (and-false (walk hash is_empty false text))
    at (is_other b s m p) text starts h = rw (s, m, p) (h false)

-- a level starts at this place; `starts`: one starts at the text's front
abbrev Starts : Bool → List ℕ → ℕ → Type 0
Starts starts text zero = starts ≡ true
Starts starts text (suc i) = At text i separator

starts_next : (starts : Bool) (b : ℕ) (text : List ℕ) (i : ℕ) → Starts (eqb b slash) text i ↔ Starts starts (b ∷ text) (suc i)
starts_next starts b text zero = at_front b slash text
starts_next starts b text (suc i) = Iff.rfl

starts_level : (text : List ℕ) (i : ℕ) → Starts true text i ↔ StartsLevel text i
starts_level text zero = (λ e. first, λ s. refl)
starts_level text (suc i) = (next i, back)
  where
    back : StartsLevel text (suc i) → At text i separator
    back (next i a) = a

-- a rule of 4.7 for a wildcard: it stands at the start of a level, and at a place of which `Stop` holds
abbrev Stands : ℕ → (List ℕ → ℕ → Type 0) → Bool → List ℕ → Type 0
Stands c Stop starts text = (i : ℕ) → At text i c → Starts starts text i × Stop text i

-- a walk is such a rule, if `ok` is its `Stop` at the front, and `Stop` speaks of what follows alone
module _
    (c : ℕ) (ok : List ℕ → Bool) (Stop : List ℕ → ℕ → Type 0)
    (here : (b : ℕ) (text : List ℕ) → (ok text ≡ true) ↔ Stop (b ∷ text) 0)
    (later : (b : ℕ) (text : List ℕ) (i : ℕ) → Stop text i ↔ Stop (b ∷ text) (suc i)) where
  stands : (text : List ℕ) (starts : Bool) → (walk c ok starts text ≡ true) ↔ Stands c Stop starts text
  unfolding walk
  stands [] starts = (λ e i a. absurd (none-ne-some c a), λ s. refl)
  stands (b ∷ text) starts =
      let rest = stands text (eqb b slash) in
      let both = and-eq-true_iff (not (eqb b c) || starts && ok text) (walk c ok (eqb b slash) text) in
      (λ e. there (both.0 e).0 (rest.0 (both.0 e).1), λ s. both.1 (front (eqb b c) refl s, rest.1 (back s)))
    where
      fits : ((starts && ok text) ≡ true) ↔ ((starts ≡ true) × Stop (b ∷ text) 0)
      fits = Iff.trans (and-eq-true_iff starts (ok text)) (Iff.and Iff.rfl (here b text))

      there : (not (eqb b c) || starts && ok text) ≡ true → Stands c Stop (eqb b slash) text → Stands c Stop starts (b ∷ text)
      there e s zero a = fits.0 (rw ((at_front b c text).1 a) at e)
      there e s (suc i) a = let h = s i a in ((starts_next starts b text i).0 h.0, (later b text i).0 h.1)

      front : (t : Bool) → eqb b c ≡ t → Stands c Stop starts (b ∷ text) → (not t || starts && ok text) ≡ true
      front true e s = fits.1 (s 0 ((at_front b c text).0 e))
      front false e s = refl

      back : Stands c Stop starts (b ∷ text) → Stands c Stop (eqb b slash) text
      back s i a = let h = s (suc i) a in ((starts_next starts b text i).1 h.0, (later b text i).1 h.1)

  -- the same from the front, in the words of 4.7
  rule : (text : List ℕ) → (walk c ok true text ≡ true) ↔ ((i : ℕ) → At text i c → StartsLevel text i × Stop text i)
  rule text =
      Iff.trans (stands text true)
      (λ s i a. (Iff.and (starts_level text i) Iff.rfl).0 (s i a), λ s i a. (Iff.and (starts_level text i) Iff.rfl).1 (s i a))

-- the last place of a text
abbrev Last : List ℕ → ℕ → Type 0
Last text i = suc i ≡ length text

last_here : (b : ℕ) (text : List ℕ) → (is_empty text ≡ true) ↔ Last (b ∷ text) 0
last_here b [] = (λ e. refl, λ e. refl)
last_here b (c ∷ text) = (λ e. absurd (true≢false (sym e)), λ e. absurd (omega arith))

last_later : (b : ℕ) (text : List ℕ) (i : ℕ) → Last text i ↔ Last (b ∷ text) (suc i)
last_later b text i = (ap suc, λ e. omega arith)

ends_here : (b : ℕ) (text : List ℕ) → (separated text ≡ true) ↔ EndsLevel (b ∷ text) 0
ends_here b [] = (λ e. last 0 refl, λ e. refl)
ends_here b (c ∷ text) = (λ e. ahead 0 ((at_front c separator text).0 e), back)
  where
    back : EndsLevel (b ∷ (c ∷ text)) 0 → eqb c slash ≡ true
    back (last i e) = absurd (omega arith)
    back (ahead i a) = (at_front c separator text).1 a

ends_later : (b : ℕ) (text : List ℕ) (i : ℕ) → EndsLevel text i ↔ EndsLevel (b ∷ text) (suc i)
ends_later b text i = (there, back)
  where
    there : EndsLevel text i → EndsLevel (b ∷ text) (suc i)
    there (last i e) = last (suc i) (ap suc e)
    there (ahead i a) = ahead (suc i) a

    back : EndsLevel (b ∷ text) (suc i) → EndsLevel text i
    back (last j e) = last i (omega arith)
    back (ahead j a) = ahead i a

-- a valid filter, by the places of its wildcards
pub valid_places :
    (text : List ℕ) → (valid_filter text ≡ true)
    ↔ (((i : ℕ) → At text i multi → StartsLevel text i × (suc i ≡ length text)) × ((i : ℕ) → At text i single → StartsLevel text i × EndsLevel text i))
valid_places text =
    rw (← scan_valid text, scan_walks text true)
    (Iff.trans (and-eq-true_iff _ _) (Iff.and (rule hash is_empty Last last_here last_later text) (rule plus separated EndsLevel ends_here ends_later text)))
