-- Laws of levels by their places, and of the walk: a step does not change what a walk comes to.
use Prim.Native.Nat.{ℕ, zero, suc, ◌+◌, ◌-◌, ◌≤◌, ◌<◌}
use native.Mathlib.Nat.{zero-add}
use native.Mathlib.Omega.{arith}
use mathlib.Core.Path.{◌≡◌, refl, sym, ap, subst, ◌∙◌}
use mathlib.Core.Bool.{Bool, true, false, ◌&&◌, ◌||◌, cond, and-true}
use mathlib.Core.List.{List, [], ◌∷◌}
use lib.Dec.{eqb, ltb, leb-zero, leb-suc-suc}
use lib.ListN.{length, get_or, take, drop, length-drop}
use borrow.Author.Tests.{le-leb, lt-leb, ltb-false, ltb-true, eq-eqb, ne_eqb, eqb-true}
use Rattle.std.specs.Prelude.{Some, None, is_some, unwrap_or}
use Rattle.text.specs.Text.{same}
use Rattle.text.proofs.Laws.{same_unequal}
use Rattle.topic.specs.Topic.{Level, slash, dollar, extend_first, with_byte, levels, is_only, is_plus, is_hash, metadata, ends, takes_level, takes, dollar_rule, levels_match, levels_if, plain_match}
use Rattle.topic.specs.Walk.{first_level, level_at, level_end, next_level, levels_at, answered, onward, stepped}
use Rattle.topic.specs.declared.Walk.{Walk}

-- from the text's beginning on, all its levels
pub levels_all : (text : List ℕ) → levels_at text 0 ≡ levels text
unfolding levels_at
levels_all text = rw (leb-zero (length text))

-- past the text, none
pub levels_past : (text : List ℕ) (at : ℕ) → length text < at → levels_at text at ≡ []
unfolding levels_at
levels_past text at h = rw (lt-leb at (length text) h)

levels_from : (text : List ℕ) (at : ℕ) → at ≤ length text → levels_at text at ≡ levels (drop at text)
unfolding levels_at
levels_from text at h = rw (le-leb at (length text) h)

levels_shift : (b : ℕ) (text : List ℕ) (at : ℕ) → levels_at (b ∷ text) (suc at) ≡ levels_at text at
unfolding levels_at
levels_shift b text at = rw (leb-suc-suc at (length text))

levels_drop : (text : List ℕ) (at n : ℕ) → at ≤ length text → levels_at (drop at text) n ≡ levels_at text (at + n)
levels_drop text zero n h = rw zero-add
levels_drop [] (suc at) n h = absurd (omega arith)
levels_drop (b ∷ text) (suc at) n h = levels_drop text at n (omega arith) ∙ (sym (levels_shift b text (at + n)) ∙ ap (levels_at (b ∷ text)) (omega arith))

-- the first level, and the others
levels_first : (text : List ℕ) → levels text ≡ first_level text ∷ levels_at text (length (first_level text) + 1)
unfolding levels first_level with_byte extend_first
levels_first [] = rw (levels_past [] (0 + 1) (omega arith))
levels_first (b ∷ text) = at (eqb b slash) (levels_first text)
  where
    at : (e : Bool) → levels text ≡ first_level text ∷ levels_at text (length (first_level text) + 1) →
        cond e ([] ∷ levels text) (extend_first b (levels text))
        ≡ cond e [] (b ∷ first_level text) ∷ levels_at (b ∷ text) (length (cond e [] (b ∷ first_level text)) + 1)
    at true h = ap (λ (rest : List Level). [] ∷ rest) (sym (levels_shift b text 0 ∙ levels_all text))
    at false h = rw h (ap (λ (rest : List Level). (b ∷ first_level text) ∷ rest) (sym (ap (levels_at (b ∷ text)) (omega arith) ∙ levels_shift b text (length (first_level text) + 1))))

-- the level at a place of the text, and those behind it
pub levels_here : (text : List ℕ) (at : ℕ) → at ≤ length text → levels_at text at ≡ level_at text at ∷ levels_at text (next_level text at)
unfolding level_at level_end next_level
levels_here text at h =
    levels_from text at h
    ∙ (levels_first (drop at text)
    ∙ ap (λ (rest : List Level). first_level (drop at text) ∷ rest) (levels_drop text at (length (first_level (drop at text)) + 1) h ∙ ap (levels_at text) (omega arith)))

-- a level stays within its text
first_within : (text : List ℕ) → length (first_level text) ≤ length text
unfolding first_level
first_within [] = omega arith
first_within (b ∷ text) = at (eqb b slash) (first_within text)
  where
    at : (e : Bool) → length (first_level text) ≤ length text → length (cond e [] (b ∷ first_level text)) ≤ suc (length text)
    at true h = omega arith
    at false h = omega arith

-- where a text's first level ends, byte by byte
pub first_none : length (first_level []) ≡ 0
unfolding first_level
first_none = refl

pub first_slash : (b : ℕ) (text : List ℕ) → b ≡ slash → length (first_level (b ∷ text)) ≡ 0
unfolding first_level
first_slash b text e = rw (eq-eqb b slash e) refl

pub first_other : (b : ℕ) (text : List ℕ) → (b ≡ slash → ⊥) → length (first_level (b ∷ text)) ≡ length (first_level text) + 1
unfolding first_level
first_other b text h = rw (ne_eqb b slash h) (omega arith)

-- the bytes of a level
pub first_part : (text : List ℕ) → take (length (first_level text)) text ≡ first_level text
unfolding first_level
first_part [] = refl
first_part (b ∷ text) = at (eqb b slash) (first_part text)
  where
    at : (e : Bool) → take (length (first_level text)) text ≡ first_level text
        → take (length (cond e [] (b ∷ first_level text))) (b ∷ text) ≡ cond e [] (b ∷ first_level text)
    at true h = refl
    at false h = ap (λ (l : Level). b ∷ l) h

-- a level of one byte
pub only_length : (b : ℕ) (level : Level) → (length level ≡ 1 → ⊥) → is_only b level ≡ false
unfolding is_only
only_length b level h = same_unequal level (b ∷ []) (λ e. h (ap length e))

pub only_one : (b : ℕ) (level : Level) → length level ≡ 1 → is_only b level ≡ eqb (get_or level 0 0) b
unfolding is_only same
only_one b [] h = absurd (omega arith)
only_one b (a ∷ []) h = rw and-true
only_one b (a ∷ (a₁ ∷ level)) h = absurd (omega arith)

-- the first byte of a level
pub metadata_empty : (level : Level) → length level ≡ 0 → metadata level ≡ false
unfolding metadata
metadata_empty [] h = refl
metadata_empty (b ∷ level) h = absurd (omega arith)

pub metadata_first : (level : Level) → (length level ≡ 0 → ⊥) → metadata level ≡ eqb (get_or level 0 0) dollar
unfolding metadata
metadata_first [] h = absurd (h refl)
metadata_first (b ∷ level) h = refl

-- where a level ends, within the text
pub level_fits : (text : List ℕ) (at : ℕ) → length (level_at text at) ≤ length text - at
unfolding level_at
level_fits text at = omega (arith, first_within (drop at text), length-drop at text)

pub end_after : (text : List ℕ) (at : ℕ) → at ≤ level_end text at
unfolding level_end
end_after text at = omega arith

-- the filter's end, by places
pub ends_past : (filter : List ℕ) (at : ℕ) → length filter < at → ends (levels_at filter at) ≡ true
unfolding ends
ends_past filter at h = rw (levels_past filter at h)

pub ends_here : (filter : List ℕ) (at : ℕ) → at ≤ length filter → ends (levels_at filter at) ≡ is_hash (level_at filter at)
unfolding ends
ends_here filter at h = rw (levels_here filter at h)

-- what a walk comes to: its answer, or that of the levels that are left
unfoldable pub comes_to : List ℕ → List ℕ → Walk → Bool
comes_to filter text w = unwrap_or w.answer (takes (levels_at filter w.filter) (levels_at text w.text))

pub comes_done : (filter text : List ℕ) (w : Walk) {taken : Bool} → w.answer ≡ Some taken → comes_to filter text w ≡ taken
unfolding comes_to
comes_done filter text w e = rw e

-- what falls with each step of a walk that has no answer
unfoldable pub left : List ℕ → Walk → ℕ
left filter w = cond (is_some w.answer) 0 (suc (length filter + 1 - w.filter))

-- a step, by its tests
pub stepped_by :
    (filter text : List ℕ) (w : Walk) {done over short multi taken : Bool} →
    is_some w.answer ≡ done →
    ltb (length text) w.text ≡ over →
    ltb (length filter) w.filter ≡ short →
    is_hash (level_at filter w.filter) ≡ multi →
    takes_level (level_at filter w.filter) (level_at text w.text) ≡ taken →
    stepped filter text w
    ≡ cond done w
    (cond over (answered w (ends (levels_at filter w.filter)))
    (cond short (answered w false) (cond multi (answered w true) (cond taken (onward filter text w) (answered w false)))))
unfolding stepped
stepped_by filter text w d o s m t =
    λ i. cond (d i) w
    (cond (o i) (answered w (ends (levels_at filter w.filter)))
    (cond (s i) (answered w false) (cond (m i) (answered w true) (cond (t i) (onward filter text w) (answered w false)))))

-- one side has no level
takes_nothing : (filter : List Level) → takes filter [] ≡ ends filter
unfolding takes
takes_nothing filter = refl

takes_none : (t : Level) (text : List Level) → takes [] (t ∷ text) ≡ false
unfolding takes
takes_none t text = refl

-- both have one
pub takes_by : (f t : Level) (filter text : List Level) {multi taken : Bool} → is_hash f ≡ multi → takes_level f t ≡ taken
    → takes (f ∷ filter) (t ∷ text) ≡ (multi || (taken && takes filter text))
unfolding takes
takes_by f t filter text m k = λ i. m i || (k i && takes filter text)

-- the second walk comes to what the first does, and less is left of it
pub record Nearer (filter text : List ℕ) (w v : Walk) : Type 0 where
  pub comes : comes_to filter text v ≡ comes_to filter text w
  pub less : left filter v < left filter w

module _ (filter text : List ℕ) (w : Walk) (d : w.answer ≡ None) where
  abbrev near : Walk → Type 0
  near v = Nearer filter text w v

  abbrev all : Bool
  all = takes (levels_at filter w.filter) (levels_at text w.text)

  near-answered : (b : Bool) → b ≡ all → near (answered w b)
  unfolding comes_to left answered
  near-answered b e = record { comes = rw d e; less = rw d (omega arith) }

  -- a level of each is there
  module _ (hs : w.text ≤ length text) (hf : w.filter ≤ length filter) where
    all_by : {multi taken : Bool} → is_hash (level_at filter w.filter) ≡ multi → takes_level (level_at filter w.filter) (level_at text w.text) ≡ taken
        → all ≡ (multi || (taken && takes (levels_at filter (next_level filter w.filter)) (levels_at text (next_level text w.text))))
    all_by m k = rw (levels_here filter w.filter hf, levels_here text w.text hs) (takes_by _ _ _ _ m k)

    near_level :
        (multi taken : Bool) → is_hash (level_at filter w.filter) ≡ multi → takes_level (level_at filter w.filter) (level_at text w.text) ≡ taken →
        near (cond multi (answered w true) (cond taken (onward filter text w) (answered w false)))
    unfolding comes_to left onward next_level
    near_level true taken m k = near-answered true (sym (all_by m k))
    near_level false true m k =
        record { comes = rw d (sym (all_by m k)); less = rw d (omega (arith, end_after filter w.filter)) }
    near_level false false m k = near-answered false (sym (all_by m k))

  -- a step brings a walk nearer
  pub step_nearer : near (stepped filter text w)
  step_nearer = subst near (sym (stepped_by filter text w (ap is_some d) refl refl refl refl)) (at-text (ltb (length text) w.text) refl)
    where
      at-filter : (b : Bool) → ltb (length filter) w.filter ≡ b → w.text ≤ length text
          → near
          (cond b (answered w false)
          (cond (is_hash (level_at filter w.filter)) (answered w true)
          (cond (takes_level (level_at filter w.filter) (level_at text w.text)) (onward filter text w) (answered w false))))
      at-filter true e hs =
          near-answered false (rw (levels_past filter w.filter (ltb-true _ _ e), levels_here text w.text hs) (sym (takes_none _ _)))
      at-filter false e hs = near_level hs (ltb-false _ _ e) _ _ refl refl

      at-text : (b : Bool) → ltb (length text) w.text ≡ b
          → near
          (cond b (answered w (ends (levels_at filter w.filter)))
          (cond (ltb (length filter) w.filter) (answered w false)
          (cond (is_hash (level_at filter w.filter)) (answered w true)
          (cond (takes_level (level_at filter w.filter) (level_at text w.text)) (onward filter text w) (answered w false)))))
      at-text true e = near-answered _ (rw (levels_past text w.text (ltb-true _ _ e)) (sym (takes_nothing _)))
      at-text false e = at-filter (ltb (length filter) w.filter) refl (ltb-false _ _ e)

-- a text's first level begins with its first byte, unless that is a `/`
metadata_text : (text : List ℕ) → metadata (first_level text) ≡ metadata text
unfolding metadata first_level
metadata_text [] = refl
metadata_text (b ∷ text) = at (eqb b slash) refl
  where
    at : (e : Bool) → eqb b slash ≡ e → metadata (cond e [] (b ∷ first_level text)) ≡ eqb b dollar
    at true h = rw (eqb-true b slash h)
    at false h = refl

-- the rule for `$`, by its tests
pub dollar_first : (filter text : List ℕ)
    → dollar_rule (levels filter) (levels text) ≡ ((is_plus (level_at filter 0) || is_hash (level_at filter 0)) && metadata text)
unfolding dollar_rule level_at
dollar_first filter text = rw (levels_first filter, levels_first text, metadata_text text) refl

-- a match of a text that is known to be a valid filter, or known to be none
pub match_known : (filter text : List ℕ) (valid : Bool)
    → levels_match (levels filter) (levels_if valid text) ≡ cond valid (plain_match filter text) (ends (levels_at filter 0))
unfolding levels_if plain_match levels_match dollar_rule takes ends
match_known filter text true = refl
match_known filter text false = rw (levels_all filter, levels_first filter) refl
