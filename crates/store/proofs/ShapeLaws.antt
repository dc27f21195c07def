-- Laws of the check of a whole store: what its tests told, each of a stretch of the code's own, and its two answers. Assumes nothing but
-- that the elements are bytes.
use Prim.Native.Nat.{ℕ, suc, ◌-◌, ◌*◌}
use mathlib.Core.Path.{◌≡◌, refl, sym, ap, ◌∙◌}
use mathlib.Core.Bool.{Bool, true, false, cond}
use mathlib.Core.List.{List}
use Rattle.std.specs.Prelude.{Option, None, Some}
use native.Mathlib.Omega.{arith}
use borrow.Author.Tests.{eq-eqb}
use mir.Syntax.{w8}
use mir.Val.{Fits}
use lib.ListN.{length, take, drop, get_or}
use Rattle.text.proofs.Laws.{isnt}
use Rattle.table.specs.Bytes.{number}
use Rattle.store.specs.declared.Counts.{Counts}
use Rattle.store.specs.Store.{counts_fit, store_length, filter_size, eq_size, note_size, session_limit}
use Rattle.store.specs.Layout.{counts, text_used, filters_used, eqs_used, notes_used, filters_at, eqs_at, notes_at, text_part, filter_part, eq_part, note_part}
use Rattle.store.specs.View.{view}
use Rattle.store.specs.Check.{counts_read, text_fine, text_rules, filter_fine, numbered_fine, table_fine, rules_of, laid_out, shape_of}
use Rattle.store.proofs.ViewLaws.{Laid, laid, shape_laid_out, shape_malformed}

-- ---- the answers

pub shape_not : (s : List ℕ) → ((i : ℕ) → Fits w8 (get_or s i 0)) → (Laid s → ⊥) → None ≡ shape_of (view s)
shape_not s y h = sym (shape_malformed s (λ i. omega (arith, y i)) (isnt (laid_out s) (λ e. h (laid s e))))

pub laid_made : (s : List ℕ) → Laid s → laid_out s ≡ true
unfolding laid_out
laid_made s l = rw (l.fits, eq-eqb _ _ l.size, l.text, l.filters, l.eqs) l.notes

pub shape_is : {d : Counts} {text filters eqs notes : ℕ} (s : List ℕ) → ((i : ℕ) → Fits w8 (get_or s i 0)) → Laid s → d ≡ counts s → text ≡ number (drop 8 s)
    → filters ≡ number (drop 10 s) → eqs ≡ number (drop 12 s) → notes ≡ number (drop 14 s)
    → Some (record { counts = d; text = text; filters = filters; eqs = eqs; notes = notes }) ≡ shape_of (view s)
unfolding text_used filters_used eqs_used notes_used
shape_is s y l p q r t u =
    (λ i. Some (record { counts = p i; text = q i; filters = r i; eqs = t i; notes = u i })) ∙ sym (shape_laid_out s (λ i. omega (arith, y i)) (laid_made s l))

-- ---- the header

-- what `Counts::new` answers of its first four numbers
pub header_told : {answer : Option Counts} {b f e n : ℕ} (s : List ℕ) → b ≡ number (drop 0 s) → f ≡ number (drop 2 s) → e ≡ number (drop 4 s)
    → n ≡ number (drop 6 s) → answer ≡ counts_read (record { bytes = b; filters = f; eqs = e; notes = n }) → answer ≡ counts_read (counts s)
unfolding counts
header_told s p q r t h = h ∙ (λ i. counts_read (record { bytes = p i; filters = q i; eqs = r i; notes = t i }))

-- the counts are in range, and the length follows from them; `d` are those that were read
pub record Counted (s : List ℕ) (d : Counts) : Type 0 where
  pub fits : counts_fit (counts s) ≡ true
  pub size : length s ≡ store_length (counts s)
  pub read : d ≡ counts s

-- ---- the stretches, as the code cuts them

pub text_cut : {at : ℕ} (s : List ℕ) → at ≡ filters_at (counts s) → take (at - 16) (drop 16 s) ≡ text_part s
unfolding text_part filters_at
text_cut {at} s e = let n : at - 16 ≡ (counts s).bytes = omega arith in rw n

pub filter_cut : {from to : ℕ} (s : List ℕ) → from ≡ filters_at (counts s) → to ≡ eqs_at (counts s) → take (to - from) (drop from s) ≡ filter_part s
unfolding filter_part eqs_at
filter_cut {from} {to} s p q = let n : to - from ≡ (counts s).filters * filter_size = omega arith in rw (n, p)

pub eq_cut : {from to : ℕ} (s : List ℕ) → from ≡ eqs_at (counts s) → to ≡ notes_at (counts s) → take (to - from) (drop from s) ≡ eq_part s
unfolding eq_part notes_at
eq_cut {from} {to} s p q = let n : to - from ≡ (counts s).eqs * eq_size = omega arith in rw (n, p)

pub note_cut : {from : ℕ} (s : List ℕ) → length s ≡ store_length (counts s) → from ≡ notes_at (counts s) → take (length s - from) (drop from s) ≡ note_part s
unfolding note_part notes_at eqs_at filters_at store_length
note_cut {from} s e p = let n : length s - from ≡ (counts s).notes * note_size = omega arith in rw (n, p)

-- ---- what each test told

module _ {answer : Option ℕ} {used at : ℕ} {s : List ℕ} {d : Counts} (C : Counted s d) (p : used ≡ number (drop 8 s)) (q : at ≡ filters_at d)
    (h : answer ≡ text_rules used (take (at - 16) (drop 16 s))) where
  of_text : answer ≡ cond (text_fine (text_used s) (text_part s)) (Some (rules_of s)) None
  unfolding text_rules text_used rules_of
  of_text = rw (text_cut s (q ∙ ap filters_at C.read), p) at h

  pub rules_told : {n : ℕ} → answer ≡ Some n → (text_fine (text_used s) (text_part s) ≡ true) × (n ≡ rules_of s)
  rules_told {n} e = by (text_fine (text_used s) (text_part s)) (sym e ∙ of_text)
    where
      by : (fine : Bool) → Some n ≡ cond fine (Some (rules_of s)) None → (fine ≡ true) × (n ≡ rules_of s)
      by true k = let same : n ≡ rules_of s = cc in (refl, same)
      by false k = let z : ◌≡◌ {A = ℕ} 0 1 = cc in absurd (omega arith)

  pub text_told : answer ≡ None → text_fine (text_used s) (text_part s) ≡ false
  text_told e = by (text_fine (text_used s) (text_part s)) (sym e ∙ of_text)
    where
      by : (fine : Bool) → None ≡ cond fine (Some (rules_of s)) None → fine ≡ false
      by true k = let z : ◌≡◌ {A = ℕ} 0 1 = cc in absurd (omega arith)
      by false k = refl

pub filters_told : {answer : Bool} {bound used from to : ℕ} {s : List ℕ} {d : Counts} → Counted s d → bound ≡ rules_of s → used ≡ number (drop 10 s) → from ≡ filters_at d
    → to ≡ eqs_at d → answer ≡ table_fine filter_size (filter_fine bound) used (take (to - from) (drop from s))
    → answer ≡ table_fine filter_size (filter_fine (rules_of s)) (filters_used s) (filter_part s)
unfolding filters_used
filters_told {s = s} C b u p q h = rw (filter_cut s (p ∙ ap filters_at C.read) (q ∙ ap eqs_at C.read), b, u) at h

pub eqs_told : {answer : Bool} {bound used from to : ℕ} {s : List ℕ} {d : Counts} → Counted s d → bound ≡ rules_of s → used ≡ number (drop 12 s) → from ≡ eqs_at d
    → to ≡ notes_at d → answer ≡ table_fine eq_size (numbered_fine bound) used (take (to - from) (drop from s))
    → answer ≡ table_fine eq_size (numbered_fine (rules_of s)) (eqs_used s) (eq_part s)
unfolding eqs_used
eqs_told {s = s} C b u p q h = rw (eq_cut s (p ∙ ap eqs_at C.read) (q ∙ ap notes_at C.read), b, u) at h

pub notes_told : {answer : Bool} {used from : ℕ} {s : List ℕ} {d : Counts} → Counted s d → used ≡ number (drop 14 s) → from ≡ notes_at d
    → answer ≡ table_fine note_size (numbered_fine (suc session_limit)) used (take (length s - from) (drop from s))
    → answer ≡ table_fine note_size (numbered_fine (suc session_limit)) (notes_used s) (note_part s)
unfolding notes_used
notes_told {s = s} C u p h = rw (note_cut s C.size (p ∙ ap notes_at C.read), u) at h
