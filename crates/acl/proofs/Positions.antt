-- Every rearrangement by positions is got by taking the first event out of the other list, again and again, from behind events that share
-- nothing with it. The first list's positions are gone through in order; each is taken out of the list of positions that the second list
-- has. Assumes nothing.
use Prim.Native.Nat.{ℕ, zero, suc, ◌<◌}
use mathlib.Core.Path.{◌≡◌, refl, sym, ap, subst, ◌∙◌}
use mathlib.Core.Bool.{true, false}
use mathlib.Core.Logic.{◌≢◌, ◌⊎◌, inl, inr}
use mathlib.Core.List.Memᴰ
use mathlib.Core.List.{List, [], ◌∷◌, ◌++◌, map, map-append, map-map, Memᴰ}
use mathlib.Core.Option.{some}
use native.Mathlib.Omega.{arith}
use lib.ListN.{length, get_or, get_elem?}
use Rattle.text.proofs.Laws.{isnt}
use Rattle.table.specs.Table.{some_row}
use Rattle.table.proofs.TableLaws.{none as none_rows, some_map}
use Rattle.events.specs.Event.{ended}
use Rattle.acl.specs.Demand3.{Outcome, shares, Rearranged}
use Rattle.acl.proofs.SharingLaws.{shares_sym}

-- the first event stands in the other list behind events that share nothing with it; the rest likewise
pub data Reordered : List Outcome → List Outcome → Type 0 where
  done : Reordered [] []
  more :
      {x : Outcome} {xs : List Outcome} (front back : List Outcome) →
      some_row (λ y. shares x.0 y.0) front ≡ false →
      Reordered xs (front ++ back) →
      Reordered (x ∷ xs) (front ++ (x ∷ back))

-- every element stands so to every later one
abbrev Ordered : {A : Type 0} → (A → A → Type 0) → List A → Type 0
Ordered R [] = Unit {0}
Ordered R (a ∷ l) = ((b : _) → Memᴰ b l → R a b) × Ordered R l

-- a list, taken apart at an element
data Split {A : Type 0} (a : A) : List A → Type 0 where
  here : (front back : List A) → Split a (front ++ (a ∷ back))

module _ {A : Type 0} where
  split : {a : A} {l : List A} → Memᴰ a l → Split a l
  split {a} (Memᴰ.head {xs = xs} e) = subst (λ b. Split a (b ∷ xs)) e (here [] xs)
  split (Memᴰ.tail m) = further (split m)
    where
      further : {a b : A} {l : List A} → Split a l → Split a (b ∷ l)
      further {b = b} (here front back) = here (b ∷ front) back

  module _ (a : A) (back : List A) where
    -- the other elements: each is in the list, and each of the list is one or stands at the place
    widen : (front : List A) (b : A) → Memᴰ b (front ++ back) → Memᴰ b (front ++ (a ∷ back))
    widen front b m = at (Memᴰ.append_cases front m)
      where
        at : Memᴰ b front ⊎ Memᴰ b back → Memᴰ b (front ++ (a ∷ back))
        at (inl k) = Memᴰ.append_left (a ∷ back) k
        at (inr k) = Memᴰ.append_right front (Memᴰ.tail k)

    narrow : (front : List A) (b : A) → b ≢ a → Memᴰ b (front ++ (a ∷ back)) → Memᴰ b (front ++ back)
    narrow front b differ m = at (Memᴰ.append_cases front m)
      where
        at : Memᴰ b front ⊎ Memᴰ b (a ∷ back) → Memᴰ b (front ++ back)
        at (inl k) = Memᴰ.append_left back k
        at (inr (Memᴰ.head e)) = absurd (differ e)
        at (inr (Memᴰ.tail k)) = Memᴰ.append_right front k

    module _ (R : A → A → Type 0) where
      before : (front : List A) → Ordered R (front ++ (a ∷ back)) → (b : A) → Memᴰ b front → R b a
      before [] o b m = elim m [ ]
      before (x ∷ front) o b (Memᴰ.head e) = subst (λ c. R c a) (sym e) (o.0 a (Memᴰ.append_right front (Memᴰ.head refl)))
      before (x ∷ front) o b (Memᴰ.tail m) = before front o.1 b m

      behind : (front : List A) → Ordered R (front ++ (a ∷ back)) → (b : A) → Memᴰ b back → R a b
      behind [] o = o.0
      behind (x ∷ front) o = behind front o.1

      without : (front : List A) → Ordered R (front ++ (a ∷ back)) → Ordered R (front ++ back)
      without [] o = o.1
      without (x ∷ front) o = (λ b m. o.0 b (widen front b m), without front o.1)

module _ (at : ℕ → Outcome) where
  -- of two positions, the first standing before the second in the other list: they differ, and if their events share something they are in order
  abbrev Keeps : ℕ → ℕ → Type 0
  Keeps j k = (j ≢ k) × (shares (at j).0 (at k).0 ≡ true → j < k)

  -- the second list has the first list's positions, each once, and keeps what shares something in order
  record Picks (is js : List ℕ) : Type 0 where
    keeps : Ordered Keeps js
    to : (k : ℕ) → Memᴰ k is → Memᴰ k js
    from : (k : ℕ) → Memᴰ k js → Memᴰ k is

  -- the least position is taken out: what stands before it shares nothing with it
  take_out :
      (i : ℕ) (is js : List ℕ) →
      ((k : ℕ) → Memᴰ k is → i < k) →
      ((js : List ℕ) → Picks is js → Reordered (map at is) (map at js)) →
      Split i js →
      Picks (i ∷ is) js →
      Reordered (map at (i ∷ is)) (map at js)
  take_out i is js least below (here front back) p =
      rw (map-append at front (i ∷ back))
      (more
      {x = at i}
      (map at front)
      (map at back)
      (rw (some_map (λ y. shares (at i).0 y.0) at front) (none_rows front apart))
      (rw (map-append at front back) at (below (front ++ back) rest)))
    where
      later : (k : ℕ) → k ≢ i → Memᴰ k (front ++ (i ∷ back)) → Memᴰ k is
      later k differ m = other (Memᴰ.cases_cons (p.from k m))
        where
          other : (k ≡ i) ⊎ Memᴰ k is → Memᴰ k is
          other (inl e) = absurd (differ e)
          other (inr n) = n

      apart : (k : ℕ) → Memᴰ k front → shares (at i).0 (at k).0 ≡ false
      apart k m =
          let b = before i back Keeps front p.keeps k m in
          let l = least k (later k b.0 (Memᴰ.append_left (i ∷ back) m)) in
          isnt _ (λ s. let g = b.1 (shares_sym (at k).0 (at i).0 ∙ s) in omega arith)

      differs : (k : ℕ) → Memᴰ k front ⊎ Memᴰ k back → k ≢ i
      differs k (inl m) = (before i back Keeps front p.keeps k m).0
      differs k (inr m) = λ e. (behind i back Keeps front p.keeps k m).0 (sym e)

      rest : Picks is (front ++ back)
      rest =
          record {
            keeps = without i back Keeps front p.keeps;
            to = λ k m. let l = least k m in narrow i back front k (λ e. omega arith) (p.to k (Memᴰ.tail m));
            from = λ k m. later k (differs k (Memᴰ.append_cases front m)) (widen i back front k m);
          }

  by_positions : (is js : List ℕ) → Ordered ◌<◌ is → Picks is js → Reordered (map at is) (map at js)
  by_positions [] [] up p = done
  by_positions [] (j ∷ js) up p = absurd (Memᴰ.not-nil (p.from j (Memᴰ.head refl)))
  by_positions (i ∷ is) js up p = take_out i is js up.0 (λ js p. by_positions is js up.1 p) (split (p.to i (Memᴰ.head refl))) p

-- a list's positions, in order, and what stands there
positions : List Outcome → List ℕ
positions [] = []
positions (x ∷ xs) = zero ∷ map suc (positions xs)

abbrev place : List Outcome → ℕ → Outcome
place xs i = get_or xs i (ended 0, true)

ordered-map :
    {A B : Type 0} (f : A → B) (R : A → A → Type 0) (S : B → B → Type 0) (l : List A) →
    ((a b : A) → Memᴰ a l → Memᴰ b l → R a b → S (f a) (f b)) →
    Ordered R l →
    Ordered S (map f l)
ordered-map f R S [] h o = tt
ordered-map f R S (x ∷ l) h o = (
  λ b m. let r = Memᴰ.of_map f l m in subst (S (f x)) r.2 (h x r.0 (Memᴰ.head refl) (Memᴰ.tail r.1) (o.0 r.0 r.1)),
  ordered-map f R S l (λ a b m n. h a b (Memᴰ.tail m) (Memᴰ.tail n)) o.1,
)

in_range : (xs : List Outcome) (i : ℕ) → Memᴰ i (positions xs) → i < length xs
unfolding positions
in_range [] i m = elim m [ ]
in_range (x ∷ xs) i (Memᴰ.head e) = omega arith
in_range (x ∷ xs) i (Memᴰ.tail m) = let r = Memᴰ.of_map suc (positions xs) m in let h = in_range xs r.0 r.1 in omega (arith, r.2)

ranged : (xs : List Outcome) (i : ℕ) → i < length xs → Memᴰ i (positions xs)
unfolding positions
ranged [] i h = absurd (omega arith)
ranged (x ∷ xs) zero h = Memᴰ.head refl
ranged (x ∷ xs) (suc i) h = Memᴰ.tail (Memᴰ.map suc (ranged xs i (omega arith)))

increasing : (xs : List Outcome) → Ordered ◌<◌ (positions xs)
unfolding positions
increasing [] = tt
increasing (x ∷ xs) = (
  λ b m. let r = Memᴰ.of_map suc (positions xs) m in omega (arith, r.2),
  ordered-map suc ◌<◌ ◌<◌ (positions xs) (λ a b m n h. omega arith) (increasing xs),
)

placed : (xs : List Outcome) → map (place xs) (positions xs) ≡ xs
unfolding positions
placed [] = refl
placed (x ∷ xs) = ap (λ l. x ∷ l) (map-map (place (x ∷ xs)) suc (positions xs) ∙ placed xs)

found : (xs : List Outcome) (i : ℕ) → i < length xs → get_elem? xs i ≡ some (place xs i)
found [] i h = absurd (omega arith)
found (x ∷ xs) zero h = refl
found (x ∷ xs) (suc i) h = found xs i (omega arith)

map_on : {A B : Type 0} {f g : A → B} (l : List A) → ((a : A) → Memᴰ a l → f a ≡ g a) → map f l ≡ map g l
map_on [] h = refl
map_on (x ∷ l) h = rw (h x (Memᴰ.head refl), map_on l (λ a m. h a (Memᴰ.tail m)))

module _ (xs ys : List Outcome) (r : Rearranged xs ys) where
  open r use {there, back, there_back, back_there, there_in, back_in, counterpart, in_order}

  same_place : (j : ℕ) → j < length ys → place xs (back j) ≡ place ys j
  same_place j h =
      let e : get_elem? ys j ≡ get_elem? xs (back j) = rw (back_there j h) at (counterpart (back j) (back_in j h)) in
      cc (e, found ys j h, found xs (back j) (back_in j h))

  in_sequence : (j k : ℕ) → Memᴰ j (positions ys) → Memᴰ k (positions ys) → j < k → Keeps (place xs) (back j) (back k)
  in_sequence j k m n h =
      let in-j = in_range ys j m in
      let in-k = in_range ys k n in
      let differ : back j ≢ back k = λ e. omega (arith, back_there j in-j, back_there k in-k, ap there e) in (
        differ,
        λ s.
            let not-before : ¬ (back k < back j) = λ l.
            let g = in_order (back k) (back j) _ _ (found xs _ (back_in k in-k)) (found xs _ (back_in j in-j)) (shares_sym _ _ ∙ s) l in
            omega (arith, back_there j in-j, back_there k in-k) in
            omega arith,
      )

  picks : Picks (place xs) (positions xs) (map back (positions ys))
  picks =
      record {
        keeps = ordered-map back ◌<◌ (Keeps (place xs)) (positions ys) in_sequence (increasing ys);
        to = λ k m. let h = in_range xs k m in Memᴰ.cast (sym (there_back k h)) (Memᴰ.map back (ranged ys (there k) (there_in k h)));
        from = λ k m. let q = Memᴰ.of_map back (positions ys) m in Memᴰ.cast (sym q.2) (ranged xs _ (back_in q.0 (in_range ys q.0 q.1)));
      }

  pub rearranged_reordered : Reordered xs ys
  rearranged_reordered =
      let ys-placed : map (place xs) (map back (positions ys)) ≡ ys
      = map-map (place xs) back (positions ys) ∙ (map_on (positions ys) (λ j m. same_place j (in_range ys j m)) ∙ placed ys) in
      rw (placed xs, ys-placed) at (by_positions (place xs) (positions xs) _ (increasing xs) picks)
