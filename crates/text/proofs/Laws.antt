-- Laws of `specs/Text.antt`: what equality, search and replace mean, and the step of each loop over plain lists and indices.
-- Assumes nothing.
use Prim.Native.Nat.{ℕ, zero, suc, ◌+◌, ◌-◌, ◌*◌, ◌≤◌, ◌<◌, min}
use mathlib.Core.Path.{◌≡◌, refl, sym, ap, ◌∙◌}
use mathlib.Core.Bool.{Bool, true, false, ◌&&◌, ◌||◌, true≢false, or-true}
use mathlib.Core.List.{List, [], ◌∷◌, ◌++◌, append_assoc, append-nil}
use native.Mathlib.Numerals.{sub-one}
use native.Mathlib.Omega.{arith}
use borrow.Author.Tests.{eqb-true, eq-eqb, leb-true, leb-false, le-leb, lt-leb}
use lib.Dec.{eqb, leb}
use lib.ListN.{length, take, drop, length-append, length-take, length-drop}
use lib.Seq.{drop-drop, take_at, drop_at, take_all, take-length}
use borrow.Rule.Slice.PartMut.{put_mid}
use Rattle.std.proofs.lemmas.Slice.{put_mid-paste}
use Rattle.std.specs.Prelude.{Option, Some, None, is_some, unwrap_or}
use Rattle.std.proofs.lemmas.Option.{same_Some, none-some}
use Rattle.std.specs.Cmp.Lexicographic.{pointwise}
use Rattle.text.specs.Text.{same, begins, contains, occurs, FirstAt, replace_from, replace, fitted, written, fits_at, pasted}

-- ---- tests

-- two tests that are true together are equal
pub both_true : (a b : Bool) → (a ≡ true → b ≡ true) → (b ≡ true → a ≡ true) → a ≡ b
both_true true b f g = sym (f refl)
both_true false true f g = g refl
both_true false false f g = refl

-- a test that is not true
pub isnt : (b : Bool) → (b ≡ true → ⊥) → b ≡ false
isnt true h = absurd (h refl)
isnt false h = refl

-- a conjunction that holds
pub and_split : (a b : Bool) → (a && b) ≡ true → (a ≡ true) × (b ≡ true)
and_split true b e = (refl, e)
and_split false b e = absurd (true≢false (sym e))

-- a disjunction that fails
pub or_split : (a b : Bool) → (a || b) ≡ false → (a ≡ false) × (b ≡ false)
or_split true b e = absurd (true≢false e)
or_split false b e = (refl, e)

-- ---- equality

pub same_true : (s t : List ℕ) → same s t ≡ true → s ≡ t
unfolding same
same_true [] [] e = refl
same_true [] (b ∷ t) e = absurd (true≢false (sym e))
same_true (a ∷ s) [] e = absurd (true≢false (sym e))
same_true (a ∷ s) (b ∷ t) e =
    let h = and_split (eqb a b) _ e in
    let first = eqb-true a b h.0 in
    let others = same_true s t h.1 in
    cc

pub same_itself : (s : List ℕ) → same s s ≡ true
unfolding same
same_itself [] = refl
same_itself (a ∷ s) = rw (eq-eqb a a refl) (same_itself s)

pub same_unequal : (s t : List ℕ) → (s ≡ t → ⊥) → same s t ≡ false
same_unequal s t h = isnt (same s t) (λ e. h (same_true s t e))

pub same_sym : (s t : List ℕ) → same s t ≡ same t s
same_sym s t = both_true (same s t) (same t s) (turned s t) (turned t s)
  where
    turned : (x y : List ℕ) → same x y ≡ true → same y x ≡ true
    turned x y e = ap (same y) (same_true x y e) ∙ same_itself y

-- texts of two lengths differ
pub same_lengths : (s t : List ℕ) → (length s ≡ length t → ⊥) → same s t ≡ false
same_lengths s t h = isnt (same s t) (λ e. h (ap length (same_true s t e)))

-- ---- a text's beginning

pub begins_append : (pattern text : List ℕ) → begins pattern (pattern ++ text) ≡ true
unfolding begins
begins_append [] text = refl
begins_append (p ∷ pattern) text = rw (eq-eqb p p refl) (begins_append pattern text)

pub begins_split : (pattern text : List ℕ) → begins pattern text ≡ true → text ≡ pattern ++ drop (length pattern) text
unfolding begins
begins_split [] text e = refl
begins_split (p ∷ pattern) [] e = absurd (true≢false (sym e))
begins_split (p ∷ pattern) (b ∷ text) e =
    let h = and_split (eqb p b) _ e in
    let first = eqb-true p b h.0 in
    let others = begins_split pattern text h.1 in
    cc

pub begins-take : (pattern text : List ℕ) → begins pattern text ≡ true → take (length pattern) text ≡ pattern
begins-take pattern text e = ap (take (length pattern)) (begins_split pattern text e) ∙ take_at pattern _ _ refl

pub begins-length : (pattern text : List ℕ) → begins pattern text ≡ true → length pattern ≤ length text
begins-length pattern text e = omega (arith, simp length-append at (ap length (begins_split pattern text e)))

pub begins_short : (pattern text : List ℕ) → length text < length pattern → begins pattern text ≡ false
begins_short pattern text h = isnt (begins pattern text) (λ e. let fits = begins-length pattern text e in omega arith)

-- what `==` on slices computes, and with it the test of a beginning
pub same_pointwise : (s t : List ℕ) → pointwise eqb s t ≡ same s t
unfolding same
same_pointwise [] [] = refl
same_pointwise [] (b ∷ t) = refl
same_pointwise (a ∷ s) [] = refl
same_pointwise (a ∷ s) (b ∷ t) = rw (same_pointwise s t) refl

eqb_sym : (a b : ℕ) → eqb a b ≡ eqb b a
eqb_sym a b = both_true (eqb a b) (eqb b a) (λ e. eq-eqb b a (sym (eqb-true a b e))) (λ e. eq-eqb a b (sym (eqb-true b a e)))

pub begins_fits : (pattern text : List ℕ) → length pattern ≤ length text
    → pointwise eqb (take (length pattern) text) pattern ≡ begins pattern text
unfolding begins
begins_fits [] text h = refl
begins_fits (p ∷ pattern) [] h = absurd (omega arith)
begins_fits (p ∷ pattern) (b ∷ text) h = rw (eqb_sym b p, begins_fits pattern text (omega arith)) refl

-- ---- search

-- the pattern stands in the text
pub record Within (pattern text : List ℕ) : Type 0 where
  pub front : List ℕ
  pub back : List ℕ
  pub split : text ≡ front ++ (pattern ++ back)

pub contains-within : (pattern text : List ℕ) → contains pattern text ≡ true → Within pattern text
unfolding contains
contains-within pattern [] e = record { front = []; back = _; split = begins_split pattern [] e }
contains-within pattern (b ∷ text) e = at (begins pattern (b ∷ text)) refl e (contains-within pattern text)
  where
    at : (t : Bool) → begins pattern (b ∷ text) ≡ t → (t || contains pattern text) ≡ true
        → (contains pattern text ≡ true → Within pattern text) → Within pattern (b ∷ text)
    at true q r f = record { front = []; back = _; split = begins_split pattern (b ∷ text) q }
    at false q r f = let w = f r in record { front = b ∷ w.front; back = w.back; split = ap {B = List ℕ} (λ s. b ∷ s) w.split }

pub contains-begins : (pattern text : List ℕ) → begins pattern text ≡ true → contains pattern text ≡ true
unfolding contains
contains-begins pattern [] e = e
contains-begins pattern (b ∷ text) e = rw e

pub within_contains : (front pattern back : List ℕ) → contains pattern (front ++ (pattern ++ back)) ≡ true
unfolding contains
within_contains [] pattern back = contains-begins pattern (pattern ++ back) (begins_append pattern back)
within_contains (b ∷ front) pattern back = rw (within_contains front pattern back) (or-true (begins pattern (b ∷ (front ++ (pattern ++ back)))))

-- ---- occurrences

pub occurs_empty : (pattern text : List ℕ) → length pattern ≡ 0 → occurs pattern text ≡ false
unfolding occurs
occurs_empty [] text h = refl
occurs_empty (p ∷ pattern) text h = absurd (omega arith)

pub occurs_begins : (pattern text : List ℕ) → (length pattern ≡ 0 → ⊥) → occurs pattern text ≡ begins pattern text
unfolding occurs
occurs_begins [] text h = absurd (h refl)
occurs_begins (p ∷ pattern) text h = refl

pub occurs_true : (pattern text : List ℕ) → occurs pattern text ≡ true → (0 < length pattern) × (begins pattern text ≡ true)
unfolding occurs
occurs_true [] text e = absurd (true≢false (sym e))
occurs_true (p ∷ pattern) text e = (omega arith, e)

pub occurs_false : (pattern text : List ℕ) → begins pattern text ≡ false → occurs pattern text ≡ false
unfolding occurs
occurs_false [] text e = refl
occurs_false (p ∷ pattern) text e = e

-- where the first occurrence stands tells whether the text contains the pattern
pub contains_empty : (pattern text : List ℕ) → length pattern ≡ 0 → contains pattern text ≡ true
contains_empty [] text h = contains-begins [] text (unfold begins in refl)
contains_empty (p ∷ pattern) text h = absurd (omega arith)

pub contains_first : (pattern text : List ℕ) (found : Option ℕ) → (length pattern ≡ 0 → ⊥) → FirstAt pattern text found
    → is_some found ≡ contains pattern text
unfolding contains
contains_first pattern text None some h = sym (nowhere text (λ k. sym (occurs_begins _ _ some) ∙ h k))
  where
    nowhere : (s : List ℕ) → ((k : ℕ) → begins pattern (drop k s) ≡ false) → contains pattern s ≡ false
    nowhere [] f = f 0
    nowhere (b ∷ s) f = rw (f 0) (nowhere s (λ k. f (suc k)))
contains_first pattern text (Some i) some h = sym (later i text (contains-begins _ _ (sym (occurs_begins _ _ some) ∙ h.1)))
  where
    later : (k : ℕ) (s : List ℕ) → contains pattern (drop k s) ≡ true → contains pattern s ≡ true
    later zero s e = e
    later (suc k) [] e = e
    later (suc k) (b ∷ s) e = rw (later k s e) (or-true (begins pattern (b ∷ s)))

-- ---- replacing

-- what is skipped is dropped
pub skipped : (pattern new : List ℕ) (k : ℕ) (text : List ℕ) → replace_from pattern new k text ≡ replace_from pattern new zero (drop k text)
unfolding replace_from
skipped pattern new zero text = refl
skipped pattern new (suc k) [] = refl
skipped pattern new (suc k) (b ∷ text) = skipped pattern new k text

-- `new` stands for an occurrence, and replacing goes on past it
pub replace_occurrence : (pattern new text : List ℕ) → occurs pattern text ≡ true
    → replace pattern new text ≡ new ++ replace pattern new (drop (length pattern) text)
unfolding begins occurs replace_from replace
replace_occurrence [] new text e = absurd (true≢false (sym e))
replace_occurrence (p ∷ pattern) new [] e = absurd (true≢false (sym e))
replace_occurrence (p ∷ pattern) new (b ∷ text) e =
    let count = ap (λ (k : ℕ). replace_from (p ∷ pattern) new k text) (sub-one (suc (length pattern))) in
    let past = count ∙ skipped (p ∷ pattern) new (length pattern) text in
    rw (e, replace_from) (ap (λ (s : List ℕ). new ++ s) past)

-- any other byte stays
pub replace_other : (pattern new : List ℕ) (b : ℕ) (text : List ℕ) → occurs pattern (b ∷ text) ≡ false
    → replace pattern new (b ∷ text) ≡ b ∷ replace pattern new text
unfolding replace_from replace
replace_other pattern new b text e = rw (e, replace_from)

-- a text that does not contain the pattern stays as it is
pub replace_absent : (pattern new text : List ℕ) → contains pattern text ≡ false → replace pattern new text ≡ text
unfolding contains
replace_absent pattern new [] e = unfold replace replace_from in refl
replace_absent pattern new (b ∷ text) e =
    let h = or_split (begins pattern (b ∷ text)) _ e in
    replace_other pattern new b text (occurs_false pattern (b ∷ text) h.0) ∙ ap {B = List ℕ} (λ s. b ∷ s) (replace_absent pattern new text h.1)

-- an occurrence at the front
pub first_here : (pattern text : List ℕ) (found : Option ℕ) → FirstAt pattern text found → unwrap_or found (length text) ≡ 0 → 0 < length text
    → (0 < length pattern) × (length pattern ≤ length text) × (occurs pattern text ≡ true)
first_here pattern text None h e some = absurd (omega arith)
first_here pattern text (Some zero) h e some = ((occurs_true pattern text h.1).0, omega arith, h.1)
first_here pattern text (Some (suc i)) h e some = absurd (omega arith)

-- the bytes at which no occurrence begins stay
replace_stays : (pattern new : List ℕ) (n : ℕ) (s : List ℕ) → ((k : ℕ) → k < n → occurs pattern (drop k s) ≡ false)
    → replace pattern new s ≡ take n s ++ replace pattern new (drop n s)
replace_stays pattern new zero s f = refl
replace_stays pattern new (suc n) [] f = refl
replace_stays pattern new (suc n) (b ∷ s) f =
    replace_other pattern new b s (f 0 (omega arith)) ∙ ap {B = List ℕ} (λ r. b ∷ r) (replace_stays pattern new n s (λ k q. f (suc k) (omega arith)))

-- the bytes before the first occurrence stay
pub replace_kept : (pattern new text : List ℕ) (found : Option ℕ) → FirstAt pattern text found
    → replace pattern new text ≡ take (unwrap_or found (length text)) text ++ replace pattern new (drop (unwrap_or found (length text)) text)
replace_kept pattern new text found h = replace_stays pattern new (unwrap_or found (length text)) text (before found h)
  where
    before : (o : Option ℕ) → FirstAt pattern text o → (k : ℕ) → k < unwrap_or o (length text) → occurs pattern (drop k text) ≡ false
    before None f k q = f k
    before (Some i) f k q = f.2 k q

pub replace_nothing : (pattern new text : List ℕ) → length text ≡ 0 → replace pattern new text ≡ []
unfolding replace_from replace
replace_nothing pattern new [] h = refl
replace_nothing pattern new (b ∷ text) h = absurd (omega arith)

-- ---- the length of a replacement

-- the number of occurrences that are replaced
unfoldable pub times_from : List ℕ → ℕ → List ℕ → ℕ
times_from pattern skip [] = 0
times_from pattern (suc skip) (b ∷ text) = times_from pattern skip text
times_from pattern zero (b ∷ text) =
    elim (occurs pattern (b ∷ text)) [
      | true ↦ suc (times_from pattern (length pattern - 1) text)
      | false ↦ times_from pattern zero text
    ]

unfoldable pub times : List ℕ → List ℕ → ℕ
times pattern text = times_from pattern zero text

-- of the bytes that are not skipped, each occurrence takes those of the pattern and gives those of `new`
record Counted (pattern new : List ℕ) (k : ℕ) (text : List ℕ) : Type 0 where
  lengths : length (replace_from pattern new k text) + times_from pattern k text * length pattern + k ≡ length text + times_from pattern k text * length new
  room : times_from pattern k text * length pattern + k ≤ length text

counted : (pattern new : List ℕ) (k : ℕ) (text : List ℕ) → k ≤ length text → Counted pattern new k text
unfolding replace_from times_from
counted pattern new zero [] h = omega arith
counted pattern new (suc k) [] h = absurd (omega arith)
counted pattern new (suc k) (b ∷ text) h = let r = counted pattern new k text (omega arith) in omega arith
counted pattern new zero (b ∷ text) h =
    at (occurs pattern (b ∷ text)) refl (counted pattern new zero text (omega arith)) (counted pattern new (length pattern - 1) text)
  where
    at : (t : Bool) → occurs pattern (b ∷ text) ≡ t → Counted pattern new zero text
        → (length pattern - 1 ≤ length text → Counted pattern new (length pattern - 1) text) → Counted pattern new zero (b ∷ text)
    at true e r f =
        let some = occurs_true pattern (b ∷ text) e in
        let fits = begins-length pattern (b ∷ text) some.1 in
        let others = f (omega arith) in
        record { lengths = rw (e, replace_from, times_from, length-append) (omega arith); room = rw (e, times_from) (omega arith) }
    at false e r f = record { lengths = rw (e, replace_from, times_from) (omega arith); room = rw (e, times_from) (omega arith) }

pub replace-length : (pattern new text : List ℕ)
    → length (replace pattern new text) + times pattern text * length pattern ≡ length text + times pattern text * length new
unfolding replace times
replace-length pattern new text = let h = counted pattern new 0 text (omega arith) in omega arith

pub times_fit : (pattern text : List ℕ) → times pattern text * length pattern ≤ length text
unfolding times
times_fit pattern text = let h = counted pattern [] 0 text (omega arith) in omega arith

-- ---- the length by fronts of what is left

-- a front that reaches behind an occurrence has it
begins_front : (pattern text : List ℕ) (w : ℕ) → length pattern ≤ w → begins pattern (take w text) ≡ begins pattern text
unfolding begins
begins_front [] text w h = refl
begins_front (p ∷ pattern) text zero h = absurd (omega arith)
begins_front (p ∷ pattern) [] (suc w) h = refl
begins_front (p ∷ pattern) (b ∷ text) (suc w) h = rw (begins_front pattern text w (omega arith)) refl

occurs_front : (pattern text : List ℕ) (w k : ℕ) → k + length pattern ≤ w → occurs pattern (drop k (take w text)) ≡ occurs pattern (drop k text)
unfolding occurs
occurs_front [] text w k h = refl
occurs_front (p ∷ pattern) text w zero h = begins_front (p ∷ pattern) text w (omega arith)
occurs_front (p ∷ pattern) text zero (suc k) h = absurd (omega arith)
occurs_front (p ∷ pattern) [] (suc w) (suc k) h = refl
occurs_front (p ∷ pattern) (b ∷ text) (suc w) (suc k) h = occurs_front (p ∷ pattern) text w k (omega arith)

-- the first occurrence of a front is that of the text
pub length_first : (pattern new text : List ℕ) (w i : ℕ) → FirstAt pattern (take w text) (Some i)
    → (0 < length pattern) × (i + length pattern ≤ w) × (i + length pattern ≤ length text)
    × (length (replace pattern new text) ≡ i + length new + length (replace pattern new (drop (i + length pattern) text)))
length_first pattern new text w i h =
    let front = length-take w text in
    let inside : (i + length pattern ≤ w) × (i + length pattern ≤ length text) = (omega (arith, h.0), omega (arith, h.0)) in
    let here = sym (occurs_front pattern text w i inside.0) ∙ h.1 in
    let stay = replace_stays pattern new i text (λ k q. sym (occurs_front pattern text w k (omega (arith, inside.0))) ∙ h.2 k q) in
    let past = rw drop-drop at (replace_occurrence pattern new (drop i text) here) in (
      (occurs_true pattern (drop i text) here).0,
      inside.0,
      inside.1,
      omega (arith, inside.1, length-take i text, simp length-append at (ap length stay), simp length-append at (ap length past)),
    )

-- a front without one, which reaches behind an occurrence at `room` or is the whole
module _ (pattern new text : List ℕ) (w room : ℕ) (none : FirstAt pattern (take w text) None) (reach : min (room + length pattern) (length text) ≤ w) where
  absent : (k : ℕ) → k ≤ room → occurs pattern (drop k text) ≡ false
  absent k q = at (leb (k + length pattern) w) refl
    where
      at : (t : Bool) → leb (k + length pattern) w ≡ t → occurs pattern (drop k text) ≡ false
      at true e = sym (occurs_front pattern text w k (leb-true (k + length pattern) w e)) ∙ none k
      at false e =
          let past = leb-false (k + length pattern) w e in
          ap (λ (s : List ℕ). occurs pattern (drop k s)) (sym (take_all w text (omega arith))) ∙ none k

  pub length_over : room < length text → room < length (replace pattern new text)
  length_over h =
      let stay = replace_stays pattern new (room + 1) text (λ k q. absent k (omega arith)) in
      omega (arith, length-take (room + 1) text, simp length-append at (ap length stay))

  pub length_within : length text ≤ room → length (replace pattern new text) ≡ length text
  length_within h =
      let stay = replace_stays pattern new (length text) text (λ k q. absent k (omega arith)) in
      let all = replace_nothing pattern new (drop (length text) text) (omega (arith, length-drop (length text) text)) in
      omega (arith, length-take (length text) text, simp length-append at (ap length stay), ap length all)

-- ---- the answer

pub fitted_fits : (result : List ℕ) (room n : ℕ) → n ≡ length result → n ≤ room → Some n ≡ fitted result room
unfolding fitted
fitted_fits result room n e h = rw (← e, le-leb n room h)

pub fitted_not : (result : List ℕ) (room : ℕ) → room < length result → None ≡ fitted result room
unfolding fitted
fitted_not result room h = rw (lt-leb (length result) room h)

-- what an answer tells
pub length_told : {answer : Option ℕ} {n : ℕ} (result : List ℕ) (room : ℕ) → answer ≡ fitted result room → answer ≡ Some n
    → (n ≡ length result) × (n ≤ room)
length_told {answer} {n} result room e q = at (leb (length result) room) refl
  where
    at : (t : Bool) → leb (length result) room ≡ t → (n ≡ length result) × (n ≤ room)
    at true h =
        let fits = leb-true (length result) room h in
        let all = same_Some n _ (sym q ∙ e ∙ sym (fitted_fits result room (length result) refl fits)) in
        (all, omega arith)
    at false h = absurd (none-some n (fitted_not result room (leb-false (length result) room h) ∙ sym e ∙ q))

pub too_long_told : {answer : Option ℕ} (result : List ℕ) (room : ℕ) → answer ≡ fitted result room → answer ≡ None → room < length result
too_long_told {answer} result room e q = at (leb (length result) room) refl
  where
    at : (t : Bool) → leb (length result) room ≡ t → room < length result
    at true h = absurd (none-some _ (sym q ∙ e ∙ sym (fitted_fits result room (length result) refl (leb-true (length result) room h))))
    at false h = leb-false (length result) room h

-- ---- the buffer

pub written_fits : (result buffer : List ℕ) → length result ≤ length buffer → written result buffer ≡ result ++ drop (length result) buffer
unfolding written
written_fits result buffer h = rw (le-leb (length result) (length buffer) h)

pub written_too_long : (result buffer : List ℕ) → length buffer < length result → written result buffer ≡ buffer
unfolding written
written_too_long result buffer h = rw (lt-leb (length result) (length buffer) h)

-- the front of a buffer that has room is the result
pub written-take : (result buffer : List ℕ) → length result ≤ length buffer → take (length result) (written result buffer) ≡ result
written-take result buffer h = rw (written_fits result buffer h) (take_at result _ _ refl)

-- a paste, with room for it and without
pub fits : (at : ℕ) (source buffer : List ℕ) → at + length source ≤ length buffer → fits_at at source buffer ≡ true
unfolding fits_at
fits at source buffer h = le-leb (at + length source) (length buffer) h

pub fits_not : (at : ℕ) (source buffer : List ℕ) → length buffer < at + length source → fits_at at source buffer ≡ false
unfolding fits_at
fits_not at source buffer h = lt-leb (at + length source) (length buffer) h

pub pasted_fits : (at : ℕ) (source buffer : List ℕ) → at + length source ≤ length buffer
    → pasted at source buffer ≡ take at buffer ++ (source ++ drop (at + length source) buffer)
unfolding pasted fits_at
pasted_fits at source buffer h = rw (le-leb (at + length source) (length buffer) h)

pub pasted_not : (at : ℕ) (source buffer : List ℕ) → length buffer < at + length source → pasted at source buffer ≡ buffer
unfolding pasted fits_at
pasted_not at source buffer h = rw (lt-leb (at + length source) (length buffer) h)

-- the front of the buffer, which was `before` and has room for the result, is written: with `rest` it is the result
pub record Wrote (result before buffer rest : List ℕ) (n : ℕ) : Type 0 where
  pub front : List ℕ
  pub room : length result ≤ length before
  pub count : length front ≡ n
  pub done : front ++ rest ≡ result
  pub whole : buffer ≡ front ++ drop n before

pub wrote_none : (result before : List ℕ) → length result ≤ length before → Wrote result before before result 0
wrote_none result before h = record { front = []; room = h; count = refl; done = refl; whole = refl }

pub wrote_lengths : {result before buffer rest : List ℕ} {n : ℕ} → Wrote result before buffer rest n
    → (length buffer ≡ length before) × (n + length rest ≤ length buffer)
wrote_lengths {before = before} {rest = rest} {n = n} w =
    let left = length-drop n before in
    omega (arith, simp length-append at (ap length w.done), simp length-append at (ap length w.whole))

-- one part more
pub wrote_part : {result before buffer rest : List ℕ} {n : ℕ} (part : List ℕ) → Wrote result before buffer (part ++ rest) n
    → Wrote result before (take n buffer ++ (part ++ drop (n + length part) buffer)) rest (n + length part)
wrote_part {before = before} {buffer = buffer} {rest = rest} {n = n} part w =
    let front : take n buffer ≡ w.front = rw w.whole (take_at w.front _ n w.count) in
    let left : drop n buffer ≡ drop n before = rw w.whole (drop_at w.front _ n w.count) in
    record {
      front = w.front ++ part;
      room = w.room;
      count = length-append w.front part ∙ rw w.count;
      done = append_assoc w.front part rest ∙ w.done;
      whole = rw (front, ← drop-drop (length part) n buffer, left, drop-drop (length part) n before) (sym (append_assoc w.front part _));
    }

-- one part more, pasted
pub wrote_next : {result before buffer : List ℕ} {n : ℕ} (part rest buffer_after whole : List ℕ) → Wrote result before buffer whole n → whole ≡ part ++ rest
    → buffer_after ≡ pasted n part buffer → Wrote result before buffer_after rest (n + length part)
wrote_next {buffer = buffer} {n = n} part rest buffer_after whole w e q =
    let v = rw e at w in
    let room = wrote_lengths v in
    rw (q, pasted_fits n part buffer (omega (arith, simp length-append at room.1))) (wrote_part part v)

pub wrote_all : {result before buffer : List ℕ} {n : ℕ} → Wrote result before buffer [] n → buffer ≡ written result before
wrote_all {result} {before} w =
    let all : w.front ≡ result = sym (append-nil w.front) ∙ w.done in
    rw (written_fits result before w.room, ← all, w.count) w.whole

-- a part of the buffer, written over
pub pasted_part : (at k : ℕ) (source buffer now : List ℕ) → at + length source ≤ length buffer → now ≡ source → k ≡ length source
    → put_mid at k buffer now ≡ pasted at source buffer
pasted_part at k source buffer now room e q =
    put_mid-paste at k buffer now source (length source) e (sym q) refl
    ∙ rw (take-length source) (append_assoc (take at buffer) source _)
    ∙ sym (pasted_fits at source buffer room)
