-- `levels` against the places of separators: it is the one way in which 4.7 splits a text, and the first level has the text's first byte.
-- By `Leveled`, or by level. Assumes nothing.
use Prim.Native.Nat.{ℕ, zero, suc}
use mathlib.Core.Path.{◌≡◌, refl, sym, ap, ◌∙◌}
use mathlib.Core.Bool.{Bool, true, false, cond, true≢false}
use mathlib.Core.Logic.Iff
use mathlib.Core.Logic.{◌↔◌}
use mathlib.Core.List.{List, [], ◌∷◌, ◌++◌, append-nil}
use mathlib.Core.Option.{some, some-injective, none-ne-some}
use lib.Dec.{eqb}
use borrow.Author.Tests.{eqb-true, ne_eqb}
use Rattle.topic.specs.Topic.{Level, slash, extend_first, with_byte, levels, metadata}
use Rattle.topic.specs.Mqtt47.{separator, dollar, At, Splits, one, more}
use Rattle.topic.proofs.Scan.{Leveled, nil, start, inside}
use Rattle.topic.proofs.Positions.{at_front}

-- a level has no separator
abbrev Whole : List ℕ → Type 0
Whole level = (i : ℕ) → At level i separator → ⊥

whole-cons : (b : ℕ) (level : List ℕ) → eqb b slash ≡ false → Whole level → Whole (b ∷ level)
whole-cons b level e w zero a = true≢false (sym ((at_front b slash level).1 a) ∙ e)
whole-cons b level e w (suc i) a = w i a

-- `levels` splits
pub splits : (text : List ℕ) → Splits text (levels text)
unfolding levels with_byte extend_first
splits [] = one [] (λ i a. none-ne-some separator a)
splits (b ∷ text) = at (eqb b slash) refl (splits text)
  where
    at : (t : Bool) → eqb b slash ≡ t → {text : List ℕ} {ls : List Level} → Splits text ls → Splits (b ∷ text) (cond t ([] ∷ ls) (extend_first b ls))
    at true e {text} {ls} s = rw (eqb-true b slash e) (more [] text ls (λ i a. none-ne-some separator a) s)
    at false e (one level w) = one (b ∷ level) (whole-cons b level e w)
    at false e (more level rest ls w s) = more (b ∷ level) rest ls (whole-cons b level e w) s

-- and there is no other way to
levels_append : (level rest : List ℕ) (ls : List Level) → Whole level → levels rest ≡ [] ∷ ls → levels (level ++ rest) ≡ level ∷ ls
unfolding levels with_byte extend_first
levels_append [] rest ls w e = e
levels_append (b ∷ level) rest ls w e = rw (levels_append level rest ls (λ i a. w (suc i) a) e, ne_eqb b slash (λ q. w 0 (ap some q)))

pub splits_levels : {text : List ℕ} {ls : List Level} → Splits text ls → levels text ≡ ls
unfolding levels with_byte
splits_levels (one level w) = rw append-nil at (levels_append level [] [] w refl)
splits_levels (more level rest ls w s) = levels_append level (separator ∷ rest) ls w (rw (splits_levels s))

-- the first level has the text's first byte
pub front : {text : List ℕ} {level : Level} {rest : List Level} → Leveled text level rest → (c : ℕ) → eqb c slash ≡ false → At level 0 c ↔ At text 0 c
front nil c h = Iff.rfl
front (start {b} e d) c h = (λ a. absurd (none-ne-some c a), λ a. absurd (true≢false (sym e ∙ (rw (some-injective b c a) h))))
front (inside e d) c h = Iff.rfl

-- metadata, by place
pub metadata_front : (level : Level) → (metadata level ≡ true) ↔ At level 0 dollar
unfolding metadata
metadata_front [] = (λ e. absurd (true≢false (sym e)), λ a. absurd (none-ne-some dollar a))
metadata_front (b ∷ level) = at_front b dollar level
