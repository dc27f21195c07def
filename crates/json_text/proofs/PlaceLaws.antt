-- Laws of the places of an array's elements: one after another to the last. Assumes nothing.
use Prim.Native.Nat.{ℕ, zero, suc, ◌+◌, ◌-◌, ◌≤◌, ◌<◌}
use native.Mathlib.Omega.{arith}
use mathlib.Core.Path.{◌≡◌, refl, ap, ◌∙◌}
use mathlib.Core.Bool.{Bool, true, false, cond}
use mathlib.Core.List.{List, [], ◌∷◌}
use Rattle.std.specs.Prelude.{Option, None, Some, option_and_then}
use Rattle.std.proofs.lemmas.Option.{none-some, same_Some}
use lib.ListN.{length}
use Rattle.json_text.specs.Json.{Json, array, Elements, no_element, element, Read, is_at, skip_blanks, depth_limit}
use Rattle.json_text.specs.Access.{value_here, first_item, after_comma, next_item, places, places_from}
use Rattle.json_text.proofs.ScanLaws.{blanks_from, blanks_within, at_within}
use Rattle.json_text.proofs.ValueLaws.{value_next}
use Rattle.json_text.proofs.AccessLaws.{element_place, ElementsIn, array_is}

-- an item stands behind the one before it, within the line
pub next_onward : (line : List ℕ) (at : ℕ) {next : ℕ} → next_item line at ≡ Some next → (at < next) × (next ≤ length line)
unfolding next_item after_comma
next_onward line at {next} = by (value_here line at) refl
  where
    by : (o : Option (Read Json)) → value_here line at ≡ o →
        option_and_then (λ (r : Read Json). cond (is_at line (skip_blanks line r.next) 0x2c) (Some (skip_blanks line (skip_blanks line r.next + 1))) None) o ≡ Some next
        → (at < next) × (next ≤ length line)
    by None e q = absurd (none-some next q)
    by (Some r) e q = comma (is_at line p 0x2c) refl q
      where
        p : ℕ
        p = skip_blanks line r.next

        comma : (b : Bool) → is_at line p 0x2c ≡ b → cond b (Some (skip_blanks line (p + 1))) None ≡ Some next → (at < next) × (next ≤ length line)
        comma true f k =
            let z = same_Some (skip_blanks line (p + 1)) next k in
            let v = value_next depth_limit line at e in
            let w = at_within line p 0x2c (omega arith) f in
            let b = blanks_from line r.next in
            let d = blanks_from line (p + 1) in
            let l = blanks_within line (p + 1) (omega arith) in
            (omega arith, omega arith)
        comma false f k = absurd (none-some next k)

-- the first stands behind the bracket, which stands in the line
pub first_onward : (line : List ℕ) (at : ℕ) {first : ℕ} → first_item 0x5b 0x5d line at ≡ Some first → (at < first) × (at < length line)
unfolding first_item
first_onward line at {first} = by (is_at line at 0x5b) (is_at line (skip_blanks line (at + 1)) 0x5d) refl
  where
    by : (opens closes : Bool) → is_at line at 0x5b ≡ opens → cond opens (cond closes None (Some (skip_blanks line (at + 1)))) None ≡ Some first
        → (at < first) × (at < length line)
    by true true e q = absurd (none-some first q)
    by true false e q =
        let z = same_Some (skip_blanks line (at + 1)) first q in
        let w = at_within line at 0x5b (omega arith) e in
        let b = blanks_from line (at + 1) in
        (omega arith, omega arith)
    by false closes e q = absurd (none-some first q)

-- so many items are left at the most
abbrev left_from : List ℕ → Option ℕ → ℕ
left_from line None = 0
left_from line (Some at) = suc (length line - at)

fewer_left : (line : List ℕ) (at : ℕ) → left_from line (next_item line at) ≤ length line - at
fewer_left line at = by (next_item line at) refl
  where
    by : (o : Option ℕ) → next_item line at ≡ o → left_from line o ≤ length line - at
    by None e = omega arith
    by (Some next) e = let h = next_onward line at e in omega arith

places_enough : (n m : ℕ) (line : List ℕ) (o : Option ℕ) → left_from line o ≤ n → left_from line o ≤ m → places n line o ≡ places m line o
unfolding places
places_enough zero zero line o h k = refl
places_enough zero (suc m) line None h k = refl
places_enough zero (suc m) line (Some at) h k = absurd (omega arith)
places_enough (suc n) zero line None h k = refl
places_enough (suc n) zero line (Some at) h k = absurd (omega arith)
places_enough (suc n) (suc m) line None h k = refl
places_enough (suc n) (suc m) line (Some at) h k =
    let fewer = fewer_left line at in ap (λ (l : List ℕ). at ∷ l) (places_enough n m line (next_item line at) (omega arith) (omega arith))

-- nowhere there is none, and at a place one and those behind it
pub places_none : (line : List ℕ) → places_from line None ≡ []
unfolding places_from places
places_none line = refl

pub places_some : (line : List ℕ) (at : ℕ) → places_from line (Some at) ≡ at ∷ places_from line (next_item line at)
unfolding places_from places
places_some line at =
    let fewer = fewer_left line at in
    ap (λ (l : List ℕ). at ∷ l) (places_enough (length line) (suc (length line)) line (next_item line at) (omega arith) (omega arith))

-- the places of an array that was read are those of its elements
unfoldable pub element_places : Elements → List ℕ
element_places no_element = []
element_places (element at value rest) = at ∷ element_places rest

in_places : (line : List ℕ) (low high : ℕ) (es : Elements) → ElementsIn line low high es → places_from line (element_place es) ≡ element_places es
unfolding element_place element_places
in_places line low high no_element h = places_none line
in_places line low high (element at value rest) h =
    places_some line at ∙ ap (λ (l : List ℕ). at ∷ l) (ap (places_from line) h.2.onward ∙ in_places line h.0 high rest h.3)

pub array_places : (line : List ℕ) (at : ℕ) {r : Read Json} {es : Elements} → value_here line at ≡ Some r → r.value ≡ array es
    → places_from line (first_item 0x5b 0x5d line at) ≡ element_places es
array_places line at {r} {es} e q =
    let is = array_is line at e q in
    ap (places_from line) is.first ∙ in_places line (at + 1) r.next es is.elements

-- there are no more of them than the line has bytes
first_within : (line : List ℕ) (at : ℕ) → left_from line (first_item 0x5b 0x5d line at) ≤ length line
unfolding first_item
first_within line at = by (is_at line at 0x5b) (is_at line p 0x5d) refl
  where
    p : ℕ
    p = skip_blanks line (at + 1)

    by : (opens closes : Bool) → is_at line at 0x5b ≡ opens → left_from line (cond opens (cond closes None (Some p)) None) ≤ length line
    by true true e = omega arith
    by true false e =
        let within = at_within line at 0x5b (omega arith) e in
        let behind = blanks_from line (at + 1) in
        let inside = blanks_within line (at + 1) (omega arith) in
        omega arith
    by false closes e = omega arith

pub places_few : (line : List ℕ) (at : ℕ) → places_from line (first_item 0x5b 0x5d line at) ≡ places (length line) line (first_item 0x5b 0x5d line at)
unfolding places_from
places_few line at =
    let within = first_within line at in places_enough (suc (length line)) (length line) line (first_item 0x5b 0x5d line at) (omega arith) (omega arith)
