-- Texts that differ at a byte up to which the filter has no wildcard: the levels of that byte differ. Assumes nothing.
use Prim.Native.Nat.{ℕ, ◌+◌, ◌<◌, ◌≤◌}
use native.Mathlib.Numerals.{add-one}
use mathlib.Core.Path.{◌≡◌, refl, sym, ap, ◌∙◌}
use mathlib.Core.Bool.{Bool, true, false, ◌&&◌, not, cond, true≢false, and-false}
use mathlib.Core.Logic.{◌⊎◌, inl, inr}
use mathlib.Core.List.{List, [], ◌∷◌}
use lib.Dec.{eqb}
use lib.ListN.{length, get_or, drop, drop_of_length-le}
use lib.Seq.{drop-cons}
use borrow.Author.Tests.{eqb-true, eq-eqb}
use Rattle.text.specs.Text.{same}
use Rattle.topic.specs.Topic.{Level, slash, plus, hash, levels, levels_if, is_only, is_plus, is_hash, ends, takes_level, takes, dollar_rule, levels_match, valid_filter, checked_levels, tree_match}
use Rattle.topic.specs.Walk.{begins_apart}
use Rattle.topic.proofs.Scan.{Leveled, nil, start, inside, leveled, leveled_levels}

-- ---- by its tests, at the byte where a scan stands

pub apart_end : (filter text : List ℕ) (i : ℕ) → length filter ≤ i ⊎ length text ≤ i → begins_apart (drop i filter) (drop i text) ≡ false
unfolding begins_apart
apart_end filter text i (inl h) = rw (drop_of_length-le filter h)
apart_end filter text i (inr h) = rw (drop_of_length-le text h) (nothing (drop i filter))
  where
    nothing : (s : List ℕ) → begins_apart s [] ≡ false
    nothing [] = refl
    nothing (b ∷ s) = refl

pub apart_at : (filter text : List ℕ) (i : ℕ) → i < length filter → i < length text
    → begins_apart (drop i filter) (drop i text)
    ≡ cond (eqb (get_or filter i 0) plus) false
    (cond (eqb (get_or filter i 0) hash) false (cond (eqb (get_or filter i 0) (get_or text i 0)) (begins_apart (drop (i + 1) filter) (drop (i + 1) text)) true))
unfolding begins_apart
apart_at filter text i h k = rw (add-one, drop-cons filter i 0, drop-cons text i 0) refl

-- ---- T of such texts

-- at the first byte: no wildcard, and the same beyond it or another byte
record First (b t : ℕ) (filter text : List ℕ) : Type 0 where
  single : eqb b plus ≡ false
  multi : eqb b hash ≡ false
  rest : eqb b t ≡ true → begins_apart filter text ≡ true

first : (b t : ℕ) (filter text : List ℕ) → begins_apart (b ∷ filter) (t ∷ text) ≡ true → First b t filter text
unfolding begins_apart
first b t filter text e = by (eqb b plus) (eqb b hash) (eqb b t) refl refl refl e
  where
    by : (single multi alike : Bool) → eqb b plus ≡ single → eqb b hash ≡ multi → eqb b t ≡ alike
        → cond single false (cond multi false (cond alike (begins_apart filter text) true)) ≡ true → First b t filter text
    by true multi alike s m a q = absurd (true≢false (sym q))
    by false true alike s m a q = absurd (true≢false (sym q))
    by false false true s m a q = record { single = s; multi = m; rest = λ h. q }
    by false false false s m a q = record { single = s; multi = m; rest = λ h. absurd (true≢false (sym h ∙ a)) }

-- the filter's first level is no wildcard, neither `#` nor `+`
no_wildcard : {filter : List ℕ} (text : List ℕ) {f : Level} {fs : List Level} → Leveled filter f fs → begins_apart filter text ≡ true
    → (is_hash f ≡ false) × (is_plus f ≡ false)
unfolding begins_apart is_only same
no_wildcard text nil e = (refl, refl)
no_wildcard text (start p d) e = (refl, refl)
no_wildcard [] (inside p d) e = absurd (true≢false (sym e))
no_wildcard (t ∷ text) (inside {b} {text = filter} p d) e = let at = first b t filter text e in (rw at.multi, rw at.single)

-- a level that is no wildcard takes its equal
plain_takes : (f l : Level) (fs ls : List Level) → (is_hash f ≡ false) × (is_plus f ≡ false) → takes (f ∷ fs) (l ∷ ls) ≡ (same f l && takes fs ls)
unfolding takes takes_level
plain_takes f l fs ls h = rw (h.0, h.1)

-- the first levels differ, or what is behind them doesn't match
apart_rest : {filter text : List ℕ} {f l : Level} {fs ls : List Level} → Leveled filter f fs → Leveled text l ls → begins_apart filter text ≡ true
    → (same f l && takes fs ls) ≡ false
unfolding begins_apart same
apart_rest nil c e = absurd (true≢false (sym e))
apart_rest (start p d) nil e = absurd (true≢false (sym e))
apart_rest (inside p d) nil e = absurd (true≢false (sym e))
apart_rest (start {b} {text = filter} p d) (start {b = t} {text = text} q c) e =
    let next = (first b t filter text e).rest (eq-eqb b t (eqb-true b slash p ∙ sym (eqb-true t slash q))) in
    plain_takes _ _ _ _ (no_wildcard text d next) ∙ apart_rest d c next
apart_rest (start p d) (inside q c) e = refl
apart_rest (inside p d) (start q c) e = refl
apart_rest (inside {b} {text = filter} {level = f} {rest = fs} p d) (inside {b = t} {text = text} {level = l} {rest = ls} q c) e =
    by (eqb b t) refl (λ a. apart_rest d c ((first b t filter text e).rest a))
  where
    by : (alike : Bool) → eqb b t ≡ alike → (eqb b t ≡ true → (same f l && takes fs ls) ≡ false) → ((eqb b t && same f l) && takes fs ls) ≡ false
    by true a h = rw a (h a)
    by false a h = rw a

apart_taken : {filter text : List ℕ} {f l : Level} {fs ls : List Level} → Leveled filter f fs → Leveled text l ls → begins_apart filter text ≡ true
    → levels_match (f ∷ fs) (l ∷ ls) ≡ false
unfolding levels_match
apart_taken {text = text} {f} {l} {fs} {ls} d c e =
    ap (λ (b : Bool). not (dollar_rule (f ∷ fs) (l ∷ ls)) && b) (plain_takes f l fs ls (no_wildcard text d e) ∙ apart_rest d c e) ∙ and-false (not (dollar_rule (f ∷ fs) (l ∷ ls)))

apart_ends : {filter : List ℕ} (text : List ℕ) {f : Level} {fs : List Level} → Leveled filter f fs → begins_apart filter text ≡ true → levels_match (f ∷ fs) [] ≡ false
unfolding levels_match dollar_rule takes ends
apart_ends text d e = (no_wildcard text d e).0

pub apart_differs : (filter text : List ℕ) (valid : Bool) → begins_apart filter text ≡ true → levels_match (levels filter) (levels_if valid text) ≡ false
unfolding levels_if
apart_differs filter text valid e = at valid
  where
    at : (v : Bool) → levels_match (levels filter) (cond v (levels text) []) ≡ false
    at true =
        let f = leveled filter in
        let l = leveled text in
        (λ i. levels_match (leveled_levels f.2 i) (leveled_levels l.2 i)) ∙ apart_taken f.2 l.2 e
    at false = let f = leveled filter in ap (λ (fs : List Level). levels_match fs []) (leveled_levels f.2) ∙ apart_ends text f.2 e

-- so T says no
pub apart_no_match : (filter text : List ℕ) → begins_apart filter text ≡ true → tree_match filter text ≡ false
unfolding tree_match checked_levels
apart_no_match filter text e = apart_differs filter text (valid_filter text) e
