-- Behind `n` TABs: the part that is left when `splitn` has given `n` others. Assumes nothing.
use Rattle.std.specs.Prelude.{Option, Some, None, MatchOption, ◌⊎◌}
use Rattle.std.specs.Bool.{MatchBool}
use Rattle.std.specs.Fn.{ComputesKey}
use Rattle.std.specs.Iterator.{Yields}
use Rattle.std.specs.List.{All, IsFirstMatchOrLen}
use Rattle.std.specs.Option.{option_map, unwrap_or}
use Rattle.std.specs.Slice.Iter.{split_rest, split_done, split_callee, splitn_parts, splitn_count}
use Rattle.std.specs.declared.slice.SplitN.{SplitN}
use Rattle.std.proofs.Common.{◌≡◌, ℕ, zero, suc, ◌+◌, ◌-◌, ◌<◌, ◌≤◌, Bool, true, false, cond, List, [], ◌∷◌, ◌++◌, length, refl, sym, ap, subst, ◌∙◌, arith, rules, tests}
use mathlib.Core.Logic.{⊎_elim}
use Rattle.std.proofs.lemmas.Bool.{cases_Bool}
use Rattle.std.proofs.lemmas.Fn.{always_returns_same}
use Rattle.std.proofs.lemmas.Grind.{common_steps}
use denote.Ref.{Bor}
use denote.Param.Members.{Mut}
use Rattle.vectors.specs.Fields.{is_tab, rest}
use Rattle.vectors.proofs.Laws.{now_or}
use Rattle.vectors.proofs.fields.rest.Goals as goal

-- behind more TABs than there are nothing stands
rest_none : (n : ℕ) (xs : List ℕ) → All (λ b. is_tab b ≡ false) xs → rest (suc n) xs ≡ []
unfolding rest
rest_none n [] h = refl
rest_none n (b ∷ xs) h =
    let e : is_tab b ≡ false = h 0 0 (omega arith) in
    rw e (rest_none n xs (λ k d l. h (suc k) d (omega arith)))

-- behind the first TAB one fewer is left to pass
rest_at : (n : ℕ) (xs : List ℕ) (y : ℕ) (left : List ℕ) → All (λ b. is_tab b ≡ false) xs → is_tab y ≡ true → rest (suc n) (xs ++ y ∷ left) ≡ rest n left
unfolding rest
rest_at n [] y left h t = rw t
rest_at n (b ∷ xs) y left h t =
    let e : is_tab b ≡ false = h 0 0 (omega arith) in
    rw e (rest_at n xs y left (λ k d l. h (suc k) d (omega arith)) t)

-- behind more TABs than the line has bytes nothing stands
rest_past : (n : ℕ) (xs : List ℕ) → length xs < n → rest n xs ≡ []
unfolding rest
rest_past zero xs h = absurd (omega arith)
rest_past (suc n) [] h = refl
rest_past (suc n) (b ∷ xs) h = by (is_tab b) (rest_past n xs (omega arith)) (rest_past (suc n) xs (omega arith))
  where
    by : (e : Bool) → rest n xs ≡ [] → rest (suc n) xs ≡ [] → cond e (rest n xs) (rest (suc n) xs) ≡ []
    by true one other = one
    by false one other = other

-- one part, and what is left behind it
rest_step : (n : ℕ) (line part left : List ℕ) (done : Bool) → MatchBool done (line ≡ part) ((y : ℕ) × (line ≡ part ++ (y ∷ left))) → IsFirstMatchOrLen is_tab line (length part)
    → rest (suc n) line ≡ cond done [] (rest n left)
rest_step n line part left true e h = rest_none n line (λ k d l. h.0 k d (omega arith) (omega (arith, ap length e)))
rest_step n line part left false e h =
    let front : All (λ z. is_tab z ≡ false) part = λ k d l. let a = h.0 k d (omega arith) l in let b = e.1 in grind (arith, common_steps) in
    let hit : is_tab e.0 ≡ true = let b = e.1 in let a = h.1 (grind (arith, common_steps)) e.0 in grind (arith, common_steps) in
    ap (rest (suc n)) e.1 ∙ rest_at n part e.0 left front hit

module _ {F : Type 0} (g : Mut F (Bor ℕ × Unit {0}) Bool) where
  -- what a call of `next` does
  abbrev steps : SplitN ℕ F → Option (Bor (List ℕ)) → SplitN ℕ F → Type 0
  steps s r t =
      (splitn_count t ≡ splitn_count s - 1)
      × MatchOption r ((splitn_count s ≡ 0) ⊎ (split_done (splitn_parts s) ≡ true))
      (λ x. (0 < splitn_count s) × (splitn_count s ≡ 1 → split_done (splitn_parts t) ≡ true)
      × MatchBool (split_done (splitn_parts t)) (split_rest (splitn_parts s) ≡ x.now) ((y : ℕ) × (split_rest (splitn_parts s) ≡ x.now ++ (y ∷ split_rest (splitn_parts t))))
      × (split_done (splitn_parts s) ≡ false)
      × (1 < splitn_count s → (p : ℕ → Bool) → ComputesKey g p (split_callee (splitn_parts s)) → ComputesKey g p (split_callee (splitn_parts t)) × IsFirstMatchOrLen p (split_rest (splitn_parts s)) (length x.now)))

  -- what the line comes to
  abbrev now_of : Option (Bor (List ℕ)) → List ℕ
  now_of r = unwrap_or (option_map (λ x. x.now) r) []

  -- with no part left there is none
  over : (xs : List (Bor (List ℕ))) (s t u : SplitN ℕ F) (r : Option (Bor (List ℕ))) → split_done (splitn_parts s) ≡ true → Yields steps s xs t → steps t r u → now_of r ≡ []
  over [] s t u None d y k = refl
  over [] s t u (Some x) d y k = let e : split_done (splitn_parts t) ≡ false = k.1.3 in cc
  over (x ∷ xs) s t u r d y k = let e : split_done (splitn_parts s) ≡ false = y.1.1.3 in cc

  -- behind n other parts
  left_behind : (n : ℕ) (xs : List (Bor (List ℕ))) (s t u : SplitN ℕ F) (r : Option (Bor (List ℕ)))
      → splitn_count s ≡ n + 1 → split_done (splitn_parts s) ≡ false → ComputesKey g is_tab (split_callee (splitn_parts s))
      → Yields steps s xs t → steps t r u → MatchOption r (length xs ≤ n) (λ _. length xs ≡ n) → now_of r ≡ rest n (split_rest (splitn_parts s))
  unfolding rest
  left_behind n [] s t u None c d key y k l =
      ⊎_elim (λ z. absurd (omega (arith, z, c, ap (λ v. splitn_count v) y))) (λ (z : split_done (splitn_parts t) ≡ true). cc) k.1
  left_behind zero [] s t u (Some x) c d key y k l =
      let last : split_done (splitn_parts u) ≡ true = k.1.1 (ap (λ v. splitn_count v) (sym y) ∙ c) in
      let all : split_rest (splitn_parts t) ≡ x.now = subst (λ b. MatchBool b (split_rest (splitn_parts t) ≡ x.now) ((y : ℕ) × (split_rest (splitn_parts t) ≡ x.now ++ (y ∷ split_rest (splitn_parts u))))) last k.1.2 in
      sym all ∙ ap (λ v. split_rest (splitn_parts v)) (sym y)
  left_behind (suc n) [] s t u (Some x) c d key y k l = absurd (omega arith)
  left_behind zero (x ∷ xs) s t u None c d key y k l = absurd (omega arith)
  left_behind zero (x ∷ xs) s t u (Some z) c d key y k l = absurd (omega arith)
  left_behind (suc n) (x ∷ xs) s t u r c d key (j, first, others) k l =
      let more = first.1.4 (omega (arith, c)) is_tab key in
      let cut : rest (suc n) (split_rest (splitn_parts s)) ≡ cond (split_done (splitn_parts j)) [] (rest n (split_rest (splitn_parts j))) =
      rest_step n _ x.now _ (split_done (splitn_parts j)) first.1.2 more.1 in
      ⊎_elim
      (λ (last : split_done (splitn_parts j) ≡ true). over xs j t u r last others k ∙ sym (rw last at cut))
      (λ (on : split_done (splitn_parts j) ≡ false).
      left_behind n xs j t u r (omega (arith, c, first.0)) on more.0 others k (fewer _ _ r l) ∙ sym (rw on at cut))
      (cases_Bool (split_done (splitn_parts j)))
    where
      -- one part fewer on both sides
      fewer : (m n : ℕ) (r : Option (Bor (List ℕ))) → MatchOption r (suc m ≤ suc n) (λ _. suc m ≡ suc n) → MatchOption r (m ≤ n) (λ _. m ≡ n)
      fewer m n None l = omega arith
      fewer m n (Some z) l = omega arith

pub returns-in_default : goal.returns-in_default
returns-in_default c = sym (rest_past c.args.n c.args.line.now (search rules))

pub returns : goal.returns
returns c =
    let parts : c.in-Some.parts ≡ c.args.n + 1 = search rules in
    let key = always_returns_same _ (λ a r. r ≡ is_tab a.0.now) _ (λ a r q k. (search (rules, tests), search (rules, tests))) in
    ap (λ x. x.now) c.unwrap_or.ensures ∙ (now_or c.nth.result _
    ∙ (left_behind _ c.args.n c.nth.ensures.ran.0 c.splitn.result c.nth.ensures.ran.1.0 c.nth.new.self c.nth.result (c.splitn.ensures.count ∙ parts) c.splitn.ensures.done key c.nth.ensures.ran.1.1 c.nth.ensures.ran.1.2 c.nth.ensures.ran.2
    ∙ ap (rest c.args.n) c.splitn.ensures.rest))
