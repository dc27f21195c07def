-- Demand 3, put to use: two events that share nothing, swapped. Assumes nothing.
use Prim.Native.Nat.{ℕ, zero, suc, ◌<◌}
use mathlib.Core.Path.{◌≡◌, refl, sym, ◌∙◌}
use mathlib.Core.Bool.{true, false, true≢false}
use mathlib.Core.List.{List, [], ◌∷◌}
use mathlib.Core.Option.{some}
use native.Mathlib.Omega.{arith}
use lib.ListN.{get_elem?}
use Rattle.events.specs.Event.{Event, after, refused}
use Rattle.acl.specs.Demand3.{Outcome, outcomes, shares, Rearranged, Agree}
use Rattle.acl.proofs.Reordering.{demand_3}

-- of two positions, the other
abbrev other : ℕ → ℕ
other zero = 1
other (suc i) = 0

module _ (x y : Outcome) (apart : shares x.0 y.0 ≡ false) where
  twice : (i : ℕ) → i < 2 → other (other i) ≡ i
  twice zero h = refl
  twice (suc zero) h = refl
  twice (suc (suc i)) h = absurd (omega arith)

  within : (i : ℕ) → i < 2 → other i < 2
  within zero h = omega arith
  within (suc i) h = omega arith

  counterpart : (i : ℕ) → i < 2 → get_elem? (y ∷ x ∷ []) (other i) ≡ get_elem? (x ∷ y ∷ []) i
  counterpart zero h = refl
  counterpart (suc zero) h = refl
  counterpart (suc (suc i)) h = absurd (omega arith)

  in_order :
      (i j : ℕ) (a b : Outcome) →
      get_elem? (x ∷ y ∷ []) i ≡ some a →
      get_elem? (x ∷ y ∷ []) j ≡ some b →
      shares a.0 b.0 ≡ true →
      i < j →
      other i < other j
  in_order zero (suc zero) a b p q s h =
      let first : x ≡ a = cc in
      let second : y ≡ b = cc in
      absurd (true≢false (sym s ∙ rw (← first, ← second) apart))
  in_order zero zero a b p q s h = absurd (omega arith)
  in_order zero (suc (suc j)) a b p q s h = let z : ◌≡◌ {A = ℕ} 0 1 = cc in absurd (omega arith)
  in_order (suc i) zero a b p q s h = absurd (omega arith)
  in_order (suc i) (suc zero) a b p q s h = absurd (omega arith)
  in_order (suc i) (suc (suc j)) a b p q s h = let z : ◌≡◌ {A = ℕ} 0 1 = cc in absurd (omega arith)

  swapped : Rearranged (x ∷ y ∷ []) (y ∷ x ∷ [])
  swapped =
      record {
        there = other;
        back = other;
        there_back = twice;
        back_there = twice;
        there_in = within;
        back_in = within;
        counterpart = counterpart;
        in_order = in_order;
      }

-- which of the two comes first is the same to every later question, if it is to the two themselves
pub neighbours :
    (s : List ℕ) (e f : Event) →
    shares e f ≡ false →
    refused e s ≡ refused e (after f s) →
    refused f s ≡ refused f (after e s) →
    Agree s (e ∷ f ∷ []) (f ∷ e ∷ [])
unfolding outcomes
neighbours s e f apart first second =
    demand_3 s (e ∷ f ∷ []) (f ∷ e ∷ []) (rw (← first, second) (swapped (e, refused e s) (f, refused f (after e s)) apart))
