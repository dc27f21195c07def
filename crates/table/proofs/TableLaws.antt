-- Laws of `specs/Table.antt`, for all three tables at once. What a table holds is read through `some_row`: two tables are alike if every
-- test finds a row in both or in neither. Assumes nothing.
use mathlib.Core.Path.{◌≡◌, refl, sym, ap, ◌∙◌}
use mathlib.Core.Bool.{Bool, true, false, ◌&&◌, ◌||◌, not, cond, Bool-set, true≢false, and-true, and-false, or-false, or-true, or_assoc, or_comm, and_assoc, and_comm}
use mathlib.Core.Logic.{∥∥₁_elim, ∥∥₁_map}
use mathlib.Core.List.{List, [], ◌∷◌, ◌++◌, map, Memᴰ, Mem, Nodup, Nodup-nil, Nodup-cons, Perm, Permᴰ, perm_ext_iff_of_Nodup}
use Prim.Native.Nat.{ℕ, suc, ◌≤◌}
use native.Mathlib.Nat.{ℕ_set}
use native.Mathlib.Omega.{arith}
use borrow.Author.Tests.{leb-true, le-leb, not-true, not-false}
use lib.Dec.{leb}
use lib.ListN.{length}
use Rattle.text.specs.Text.{same as same_text}
use Rattle.text.proofs.Laws.{both_true, isnt, and_split, or_split, same_true, same_itself}
use Rattle.table.specs.Table.{some_row, keep, add, add_all, Change, adds, drops, change, distinct, sound}

or_left_comm : (a b c : Bool) → (a || (b || c)) ≡ (b || (a || c))
or_left_comm true b c = sym (or-true b)
or_left_comm false b c = refl

-- a disjunct that brings nothing new
absorb : (a b : Bool) → (b ≡ true → a ≡ true) → a ≡ (a || b)
absorb true b h = refl
absorb false b h = sym (both_true b false h (λ e. absurd (true≢false (sym e))))

module _ {Row : Type 0} where
  -- the tables are alike
  abbrev pub Same : List Row → List Row → Type 0
  Same rows rows₁ = (p : Row → Bool) → some_row p rows ≡ some_row p rows₁

  -- tests that agree on every row
  pub some_on : {p q : Row → Bool} (rows : List Row) → ((r : Row) → Memᴰ r rows → p r ≡ q r) → some_row p rows ≡ some_row q rows
  unfolding some_row
  some_on [] h = refl
  some_on (r ∷ rows) h = rw (h r (Memᴰ.head refl), some_on rows (λ t m. h t (Memᴰ.tail m)))

  -- a member is found by every test that it passes
  pub present : {r : Row} {rows : List Row} (p : Row → Bool) → Memᴰ r rows → p r ≡ true → some_row p rows ≡ true
  unfolding some_row
  present p (Memᴰ.head e) h = rw (← e, h)
  present p (Memᴰ.tail m) h = rw (present p m h) (or-true (p _))

  -- a test that no row passes
  pub none : {p : Row → Bool} (rows : List Row) → ((r : Row) → Memᴰ r rows → p r ≡ false) → some_row p rows ≡ false
  unfolding some_row
  none [] h = refl
  none (r ∷ rows) h = rw (h r (Memᴰ.head refl), none rows (λ t m. h t (Memᴰ.tail m)))

  pub none_at : (p : Row → Bool) {r : Row} {rows : List Row} → some_row p rows ≡ false → Memᴰ r rows → p r ≡ false
  none_at p e m = isnt _ (λ h. true≢false (sym (present p m h) ∙ e))

  pub none_of : {p q : Row → Bool} (rows : List Row) → ((r : Row) → q r ≡ false → p r ≡ false) → some_row q rows ≡ false → some_row p rows ≡ false
  none_of {q = q} rows h e = none rows (λ r m. h r (none_at q e m))

  pub some_append : (p : Row → Bool) (rows more : List Row) → some_row p (rows ++ more) ≡ (some_row p rows || some_row p more)
  unfolding some_row
  some_append p [] more = refl
  some_append p (r ∷ rows) more = rw (some_append p rows more) (sym (or_assoc (p r) _ _))

  pub some_keep : (p q : Row → Bool) (rows : List Row) → some_row p (keep q rows) ≡ some_row (λ r. p r && q r) rows
  unfolding some_row keep
  some_keep p q [] = refl
  some_keep p q (r ∷ rows) = at (q r) (some_keep p q rows)
    where
      at : (b : Bool) → some_row p (keep q rows) ≡ some_row (λ t. p t && q t) rows
          → some_row p (cond b (r ∷ keep q rows) (keep q rows)) ≡ (p r && b || some_row (λ t. p t && q t) rows)
      at true e = rw (e, and-true)
      at false e = rw (e, and-false)

  pub length-keep : (q : Row → Bool) (rows : List Row) → length (keep q rows) ≤ length rows
  unfolding keep
  length-keep q [] = omega arith
  length-keep q (r ∷ rows) = at (q r) (length-keep q rows)
    where
      at : (b : Bool) → length (keep q rows) ≤ length rows → length (cond b (r ∷ keep q rows) (keep q rows)) ≤ suc (length rows)
      at true h = omega arith
      at false h = omega arith

pub some_map : {Row Row₁ : Type 0} (p : Row₁ → Bool) (f : Row → Row₁) (rows : List Row) → some_row p (map f rows) ≡ some_row (λ r. p (f r)) rows
unfolding some_row
some_map p f [] = refl
some_map p f (r ∷ rows) = rw (some_map p f rows)

module _ {Row : Type 0} where
  pub some_nil : (p : Row → Bool) → some_row p [] ≡ false
  unfolding some_row
  some_nil p = refl

  -- the rows that a change adds, and the test that a row passes which it leaves
  unfoldable pub new : Change Row → List Row
  new (adds rows) = rows
  new (drops test) = []

  unfoldable pub stays : Change Row → Row → Bool
  stays (adds rows) r = true
  stays (drops test) r = not (test r)

  -- the first change takes nothing away that the second adds
  abbrev pub Spares : Change Row → Change Row → Type 0
  Spares c d = some_row (λ r. not (stays c r)) (new d) ≡ false

  pub adds_spare : (rows : List Row) (d : Change Row) → Spares (adds rows) d
  unfolding stays
  adds_spare rows d = none (new d) (λ r m. refl)

  -- a change that adds and takes away no rows but these
  pub record Touches (mine : Row → Bool) (c : Change Row) : Type 0 where
    pub added : some_row (λ r. not (mine r)) (new c) ≡ false
    pub taken : (r : Row) → mine r ≡ false → stays c r ≡ true

  pub touches_spares :
      {mine yours : Row → Bool} {c d : Change Row} →
      Touches mine c →
      Touches yours d →
      ((r : Row) → yours r ≡ true → mine r ≡ false) →
      Spares c d
  touches_spares {yours = yours} {d = d} m y apart = none_of (new d) (λ r h. rw (m.taken r (apart r (not-false (yours r) h)))) y.added

  spared : (c d : Change Row) (p : Row → Bool) → Spares c d → some_row (λ r. p r && stays c r) (new d) ≡ some_row p (new d)
  spared c d p e = some_on (new d) (λ r m. rw (not-false (stays c r) (none_at (λ t. not (stays c t)) e m), and-true))

-- the test is equality
pub record Equals {Row : Type 0} (same : Row → Row → Bool) : Type 0 where
  pub agree : (a b : Row) → same a b ≡ true → a ≡ b
  pub itself : (a : Row) → same a a ≡ true

pub texts : Equals same_text
texts = record { agree = same_true; itself = same_itself }

module _ {Row : Type 0} {same : Row → Row → Bool} (E : Equals same) where
  open E use {agree, itself}

  pub member : (r : Row) (rows : List Row) → some_row (same r) rows ≡ true → Memᴰ r rows
  unfolding some_row
  member r [] e = absurd (true≢false (sym e))
  member r (t ∷ rows) e = at (same r t) refl e (member r rows)
    where
      at : (b : Bool) → same r t ≡ b → (b || some_row (same r) rows) ≡ true → (some_row (same r) rows ≡ true → Memᴰ r rows) → Memᴰ r (t ∷ rows)
      at true f e below = Memᴰ.head (agree r t f)
      at false f e below = Memᴰ.tail (below e)

  some_add : (p : Row → Bool) (r : Row) (rows : List Row) → some_row p (add same r rows) ≡ (some_row p rows || p r)
  unfolding add some_row
  some_add p r rows = at (some_row (same r) rows) refl
    where
      at : (b : Bool) → some_row (same r) rows ≡ b → some_row p (cond b rows (rows ++ (r ∷ []))) ≡ (some_row p rows || p r)
      at true e = absorb (some_row p rows) (p r) (present p (member r rows e))
      at false e = rw (some_append p rows (r ∷ []), or-false)

  pub some_add_all : (p : Row → Bool) (new rows : List Row) → some_row p (add_all same new rows) ≡ (some_row p rows || some_row p new)
  unfolding add_all some_row
  some_add_all p [] rows = sym (or-false (some_row p rows))
  some_add_all p (r ∷ new) rows = rw (some_add_all p new (add same r rows), some_add p r rows, or_assoc)

  -- what a table holds after a change: what stays of what it held, and what is new
  pub some_change :
      (p : Row → Bool) (c : Change Row) (rows : List Row) →
      some_row p (change same c rows) ≡ (some_row (λ r. p r && stays c r) rows || some_row p (new c))
  unfolding change new stays some_row
  some_change p (adds more) rows = simp and-true (some_add_all p more rows)
  some_change p (drops test) rows = rw (some_keep p (λ r. not (test r)) rows, or-false)

  -- a test that fails on the rows which a change touches gives the same afterwards
  pub untouched :
      {mine : Row → Bool} {c : Change Row} (q : Row → Bool) (rows : List Row) →
      Touches mine c →
      ((r : Row) → mine r ≡ true → q r ≡ false) →
      some_row q (change same c rows) ≡ some_row q rows
  untouched {mine} {c} q rows m apart =
      rw (some_change q c rows, none_of (new c) (λ r h. apart r (not-false (mine r) h)) m.added, or-false) (some_on rows (λ r _. at r (mine r) refl))
    where
      at : (r : Row) (b : Bool) → mine r ≡ b → (q r && stays c r) ≡ q r
      at r true e = rw (apart r e)
      at r false e = rw (m.taken r e, and-true)

  -- changes respect likeness
  pub change-same : (c : Change Row) (rows rows₁ : List Row) → Same rows rows₁ → Same (change same c rows) (change same c rows₁)
  change-same c rows rows₁ h p = rw (some_change p c rows, some_change p c rows₁, h (λ r. p r && stays c r))

  -- two changes of which neither takes away what the other adds commute
  pub change_commutes :
      (c d : Change Row) (rows : List Row) → Spares c d → Spares d c → Same (change same c (change same d rows)) (change same d (change same c rows))
  change_commutes c d rows cd dc p = twice c d cd ∙ ((simp (and_comm, or_assoc, or_comm, or_left_comm)) ∙ sym (twice d c dc))
    where
      twice :
          (c d : Change Row) → Spares c d →
          some_row p (change same c (change same d rows))
          ≡ (some_row (λ r. p r && (stays c r && stays d r)) rows || some_row p (new d) || some_row p (new c))
      twice c d cd =
          rw (some_change p c (change same d rows), some_change (λ r. p r && stays c r) d rows, spared c d p cd) (simp and_assoc)

  -- equality may be tested either way round
  pub same_sym : (a b : Row) → same a b ≡ same b a
  same_sym a b = both_true _ _ (λ e. rw (agree a b e) (itself b)) (λ e. rw (agree b a e) (itself a))

  distinct_append : (r : Row) (rows : List Row) → distinct same rows ≡ true → some_row (same r) rows ≡ false → distinct same (rows ++ (r ∷ [])) ≡ true
  unfolding distinct some_row
  distinct_append r [] d e = refl
  distinct_append r (t ∷ rows) d e =
      let a = and_split (not (some_row (same t) rows)) (distinct same rows) d in
      let s = or_split (same r t) (some_row (same r) rows) e in
      rw (some_append (same t) rows (r ∷ []), not-true (some_row (same t) rows) a.0, same_sym t r, s.0, distinct_append r rows a.1 s.1)

  distinct-add_all : (new rows : List Row) → distinct same rows ≡ true → distinct same (add_all same new rows) ≡ true
  unfolding add_all add
  distinct-add_all [] rows d = d
  distinct-add_all (r ∷ new) rows d = distinct-add_all new (add same r rows) (at (some_row (same r) rows) refl)
    where
      at : (b : Bool) → some_row (same r) rows ≡ b → distinct same (cond b rows (rows ++ (r ∷ []))) ≡ true
      at true e = d
      at false e = distinct_append r rows d e

  distinct-keep : (q : Row → Bool) (rows : List Row) → distinct same rows ≡ true → distinct same (keep q rows) ≡ true
  unfolding distinct keep
  distinct-keep q [] d = refl
  distinct-keep q (r ∷ rows) d = at (q r) (distinct-keep q rows a.1)
    where
      a : (not (some_row (same r) rows) ≡ true) × (distinct same rows ≡ true)
      a = and_split (not (some_row (same r) rows)) (distinct same rows) d

      at : (b : Bool) → distinct same (keep q rows) ≡ true → distinct same (cond b (r ∷ keep q rows) (keep q rows)) ≡ true
      at true e = rw (some_keep (same r) q rows, none_of {p = λ t. same r t && q t} rows (λ t h. rw h) (not-true _ a.0), e)
      at false e = e

  -- `sound`, by its parts
  pub record Sound (bad : Row → Bool) (room : ℕ) (rows : List Row) : Type 0 where
    pub fits : length rows ≤ room
    pub good : some_row bad rows ≡ false
    pub unequal : distinct same rows ≡ true

  module _ {bad : Row → Bool} {room : ℕ} {rows : List Row} where
    pub sound_parts : sound same bad room rows ≡ true → Sound bad room rows
    unfolding sound
    sound_parts e =
        let a = and_split (leb (length rows) room) _ e in
        let b = and_split (not (some_row bad rows)) _ a.1 in
        record { fits = leb-true _ _ a.0; good = not-true _ b.0; unequal = b.1 }

    pub sound_made : Sound bad room rows → sound same bad room rows ≡ true
    unfolding sound
    sound_made s = rw (le-leb (length rows) room s.fits, s.good) s.unequal

    -- added rows keep a table sound if they are good and there is room
    pub sound-adds : Sound bad room rows → (more : List Row) → length (add_all same more rows) ≤ room → some_row bad more ≡ false → Sound bad room (change same (adds more) rows)
    unfolding change
    sound-adds s more h e =
        record { fits = h; good = rw (some_add_all bad more rows, s.good, e); unequal = distinct-add_all more rows s.unequal }

    -- what is left of a sound table is sound
    pub sound-drops : Sound bad room rows → (test : Row → Bool) → Sound bad room (change same (drops test) rows)
    unfolding change
    sound-drops s test =
        record {
          fits = omega (arith, length-keep (λ r. not (test r)) rows);
          good = rw (some_keep bad (λ r. not (test r)) rows) (none_of rows (λ r h. rw h) s.good);
          unequal = distinct-keep (λ r. not (test r)) rows s.unequal;
        }

  -- a table without equal rows, in the library's words
  nodup : (rows : List Row) → distinct same rows ≡ true → Nodup rows
  unfolding distinct
  nodup [] d = Nodup-nil
  nodup (r ∷ rows) d =
      let a = and_split (not (some_row (same r) rows)) (distinct same rows) d in
      Nodup-cons.1 (λ m. true≢false (sym (found rows r m) ∙ not-true _ a.0), nodup rows a.1)
    where
      found : (rows : List Row) (r : Row) → Mem r rows → some_row (same r) rows ≡ true
      found rows r m = ∥∥₁_elim m (Bool-set _ _) (λ d. present (same r) d (itself r))

  -- tables without equal rows that are alike hold the same rows, perhaps in another sequence
  pub alike_perm : (rows rows₁ : List Row) → distinct same rows ≡ true → distinct same rows₁ ≡ true → Same rows rows₁ → Perm rows rows₁
  alike_perm rows rows₁ d d₁ h = (perm_ext_iff_of_Nodup (nodup rows d) (nodup rows₁ d₁)).1 (λ r. (across rows rows₁ h r, across rows₁ rows (λ p. sym (h p)) r))
    where
      across : (rows rows₁ : List Row) → Same rows rows₁ → (r : Row) → Mem r rows → Mem r rows₁
      across rows rows₁ h r m = ∥∥₁_map m (λ d. member r rows₁ (sym (h (same r)) ∙ present (same r) d (itself r)))

-- rows that are written so that they can be read back are equal as written if and only if they are equal
module _ {Row Written : Type 0} {same : Row → Row → Bool} {alike : Written → Written → Bool} (E : Equals same) (F : Equals alike) where
  pub distinct-map : (put : Row → Written) (get : Written → Row) (rows : List Row) → ((r : Row) → Memᴰ r rows → get (put r) ≡ r)
      → distinct alike (map put rows) ≡ distinct same rows
  unfolding distinct
  distinct-map put get [] back = refl
  distinct-map put get (r ∷ rows) back =
      rw (
        some_map (alike (put r)) put rows,
        some_on {p = λ t. alike (put r) (put t)} {q = same r} rows (λ t m. pair t (back t (Memᴰ.tail m))),
        distinct-map put get rows (λ t m. back t (Memᴰ.tail m)),
      )
    where
      pair : (t : Row) → get (put t) ≡ t → alike (put r) (put t) ≡ same r t
      pair t e =
          both_true _ _
          (λ q.
          let here = back r (Memᴰ.head refl) in
          let written = F.agree _ _ q in
          let equal : r ≡ t = sym here ∙ ap get written ∙ e in
          rw equal (E.itself t))
          (λ q. rw (E.agree r t q) (F.itself (put t)))

pub perm-length : {Row : Type 0} {rows rows₁ : List Row} → Perm rows rows₁ → length rows ≡ length rows₁
perm-length p = ∥∥₁_elim p (ℕ_set _ _) go
  where
    go : {Row : Type 0} {rows rows₁ : List Row} → Permᴰ rows rows₁ → length rows ≡ length rows₁
    go Permᴰ.nil = refl
    go (Permᴰ.cons e p) = ap suc (go p)
    go (Permᴰ.swap d e) = refl
    go (Permᴰ.trans p q) = go p ∙ go q
