-- Laws of `specs/Json.antt`'s leaves: places stay in the line, and the steps of the loops over blanks and digits. Assumes nothing.
use Prim.Native.Nat.{ℕ, zero, suc, ◌+◌, ◌-◌, ◌≤◌, ◌<◌}
use native.Mathlib.Numerals.{add-one}
use native.Mathlib.Omega.{arith}
use mathlib.Core.Path.{◌≡◌, refl, sym, ap, ◌∙◌}
use mathlib.Core.Logic.{◌⊎◌, inl, inr}
use mathlib.Core.Bool.{Bool, true, false, cond, true≢false}
use mathlib.Core.List.{List, [], ◌∷◌}
use Rattle.std.specs.Bool.{then_some}
use Rattle.std.specs.Prelude.{Option, None, Some, not}
use Rattle.text.specs.Maybe.{bind}
use Rattle.std.proofs.lemmas.Option.{none-some}
use lib.Dec.{eqb}
use lib.ListN.{length, get_or, take, drop, length-drop, drop_of_length-le}
use lib.Seq.{drop-cons}
use borrow.Author.Tests.{eqb-true, ne_eqb}
use Rattle.text.specs.Ascii.{ascii}
use Rattle.text.specs.Text.{begins}
use Rattle.text.proofs.Laws.{begins-length}
use Rattle.json_text.specs.Utf8.{no_byte, byte_at, between, utf8}
use Rattle.json_text.specs.Strings.{quote, Decoded, piece_of, grown, string_from, string_at}
use Rattle.json_text.specs.Json.{Json, null, bool, Read, is_at, is_blank, blanks, skip_blanks, kind_of, digits, decimal, plain_number, number_at, word_at, text_at, name_at, separator_at}
use Rattle.json_text.specs.declared.Piece.{Piece}
use Rattle.json_text.specs.declared.Piece.TheVariants.{Closes, Raw, Escaped}
use Rattle.json_text.specs.declared.Kind.TheVariants.{Number, Text, Array, Object, Word, Blank, Other}
use Rattle.json_text.specs.declared.Separator.TheVariants.{Close, Comma}
use Rattle.json_text.proofs.Utf8Laws.{byte_past}

-- ---- a byte at a place

pub byte_within : (line : List ℕ) (at : ℕ) → byte_at line at < no_byte → at < length line
byte_within [] at h = absurd (omega (arith, byte_past [] at (omega arith)))
byte_within (b ∷ line) zero h = omega arith
byte_within (b ∷ line) (suc at) h = omega (arith, byte_within line at h)

-- within the line a byte does not depend on what would stand past it
pub byte_here : (line : List ℕ) (at : ℕ) → at < length line → byte_at line at ≡ get_or line at 0
byte_here [] at h = absurd (omega arith)
byte_here (b ∷ line) zero h = refl
byte_here (b ∷ line) (suc at) h = byte_here line at (omega arith)

pub at_within : (line : List ℕ) (at b : ℕ) → b < 256 → is_at line at b ≡ true → at < length line
unfolding is_at
at_within line at b h e = byte_within line at (omega (arith, eqb-true (byte_at line at) b e))

-- ---- kinds of bytes

pub is_blank_lem : (b : ℕ) → (b ≡ 0x09) ⊎ ((b ≡ 0x0d) ⊎ (b ≡ 0x20)) → is_blank b ≡ true
unfolding is_blank
is_blank_lem b (inl e) = ap is_blank e
is_blank_lem b (inr (inl e)) = ap is_blank e
is_blank_lem b (inr (inr e)) = ap is_blank e

pub no_blank : (b : ℕ) → ((b ≡ 0x09) ⊎ ((b ≡ 0x0d) ⊎ (b ≡ 0x20)) → ⊥) → is_blank b ≡ false
unfolding is_blank
no_blank b h = rw (ne_eqb b 0x20 (λ e. h (inr (inr e))), ne_eqb b 0x09 (λ e. h (inl e)), ne_eqb b 0x0d (λ e. h (inr (inl e))))

-- by its tests
pub kind_by : (b : ℕ) {digit string opens-array opens-object letter blank : Bool} →
    between 0x30 0x39 b ≡ digit → eqb b quote ≡ string → eqb b 0x5b ≡ opens-array → eqb b 0x7b ≡ opens-object → between 0x61 0x7a b ≡ letter → is_blank b ≡ blank
    → kind_of b ≡ cond digit Number (cond string Text (cond opens-array Array (cond opens-object Object (cond letter Word (cond blank Blank Other)))))
unfolding kind_of
kind_by b d s a o l k = λ i. cond (d i) Number (cond (s i) Text (cond (a i) Array (cond (o i) Object (cond (l i) Word (cond (k i) Blank Other)))))

-- a byte that is no quote, bracket or blank
pub kind_others : (b : ℕ) {digit letter : Bool} → between 0x30 0x39 b ≡ digit → between 0x61 0x7a b ≡ letter
    → (b ≡ 0x22 → ⊥) → (b ≡ 0x5b → ⊥) → (b ≡ 0x7b → ⊥) → is_blank b ≡ false → kind_of b ≡ cond digit Number (cond letter Word Other)
kind_others b d l string array object blank = kind_by b d (ne_eqb b 0x22 string) (ne_eqb b 0x5b array) (ne_eqb b 0x7b object) l blank

-- ---- blanks

pub blanks_all : (s : List ℕ) → blanks s ≤ length s
unfolding blanks
blanks_all [] = omega arith
blanks_all (b ∷ s) = at (is_blank b) (blanks_all s)
  where
    at : (e : Bool) → blanks s ≤ length s → cond e (1 + blanks s) 0 ≤ suc (length s)
    at true h = omega arith
    at false h = omega arith

pub blanks_from : (line : List ℕ) (at : ℕ) → at ≤ skip_blanks line at
unfolding skip_blanks
blanks_from line at = omega arith

pub blanks_within : (line : List ℕ) (at : ℕ) → at ≤ length line → skip_blanks line at ≤ length line
unfolding skip_blanks
blanks_within line at h = omega (arith, blanks_all (drop at line), length-drop at line)

-- byte by byte
pub blanks_past : (line : List ℕ) (at : ℕ) → length line ≤ at → skip_blanks line at ≡ at
unfolding skip_blanks blanks
blanks_past line at h = rw (drop_of_length-le line {i = at} h) (omega arith)

pub blanks_onward : (line : List ℕ) (at : ℕ) → at < length line → is_blank (get_or line at 0) ≡ true → skip_blanks line at ≡ skip_blanks line (at + 1)
unfolding skip_blanks blanks
blanks_onward line at h e = rw (add-one, drop-cons line at 0 h, e) (omega arith)

pub blanks_end : (line : List ℕ) (at : ℕ) → at < length line → is_blank (get_or line at 0) ≡ false → skip_blanks line at ≡ at
unfolding skip_blanks blanks
blanks_end line at h e = rw (drop-cons line at 0 h, e) (omega arith)

-- ---- numbers

-- the digits from a place on
abbrev pub digits_at : List ℕ → ℕ → List ℕ
digits_at line at = digits (drop at line)

pub digits_all : (s : List ℕ) → length (digits s) ≤ length s
unfolding digits
digits_all [] = omega arith
digits_all (b ∷ s) = at (between 0x30 0x39 b) (digits_all s)
  where
    at : (e : Bool) → length (digits s) ≤ length s → length (cond e ((b - 0x30) ∷ digits s) []) ≤ suc (length s)
    at true h = omega arith
    at false h = omega arith

pub plain_some : (ds : List ℕ) → plain_number ds ≡ true → 0 < length ds
unfolding plain_number
plain_some [] e = absurd (true≢false (sym e))
plain_some (d ∷ ds) e = omega arith

pub number_next : (line : List ℕ) (at : ℕ) {r : Read ℕ} → number_at line at ≡ Some r → (at < r.next) × (r.next ≤ length line)
unfolding number_at
number_next line at {r} e = by (plain_number (digits_at line at)) refl e
  where
    by : (b : Bool) → plain_number (digits_at line at) ≡ b
        → cond b (Some (record { value = decimal 0 (digits_at line at); next = at + length (digits_at line at) })) None ≡ Some r
        → (at < r.next) × (r.next ≤ length line)
    by true h q =
        let here : at + length (digits_at line at) ≡ r.next = cc in
        omega (arith, plain_some (digits_at line at) h, digits_all (drop at line), length-drop at line)
    by false h q = absurd (none-some _ q)

-- ---- words

-- the word, by its tests
abbrev pub words : ℕ → Bool → Bool → Bool → Option (Read Json)
words at is_null is_true is_false =
    cond is_null (Some (record { value = null; next = at + 4 }))
    (cond is_true (Some (record { value = bool true; next = at + 4 })) (cond is_false (Some (record { value = bool false; next = at + 5 })) None))

pub word_by : (line : List ℕ) (at : ℕ) {n t f : Bool} →
    begins (ascii "null") (drop at line) ≡ n → begins (ascii "true") (drop at line) ≡ t → begins (ascii "false") (drop at line) ≡ f → word_at line at ≡ words at n t f
unfolding word_at
word_by line at n t f = λ i. words at (n i) (t i) (f i)

pub word_past : (line : List ℕ) (at : ℕ) → length line ≤ at → word_at line at ≡ None
unfolding word_at begins
word_past line at h = rw (drop_of_length-le line {i = at} h)

pub word_next : (line : List ℕ) (at : ℕ) {r : Read Json} → word_at line at ≡ Some r → (at < r.next) × (r.next ≤ length line)
word_next line at {r} e = by _ _ _ refl refl refl (sym (word_by line at refl refl refl) ∙ e)
  where
    by : (n t f : Bool) → begins (ascii "null") (drop at line) ≡ n → begins (ascii "true") (drop at line) ≡ t → begins (ascii "false") (drop at line) ≡ f
        → words at n t f ≡ Some r → (at < r.next) × (r.next ≤ length line)
    by true t f hn ht hf q =
        let here : at + 4 ≡ r.next = cc in
        omega (arith, begins-length (ascii "null") (drop at line) hn, length-drop at line)
    by false true f hn ht hf q =
        let here : at + 4 ≡ r.next = cc in
        omega (arith, begins-length (ascii "true") (drop at line) ht, length-drop at line)
    by false false true hn ht hf q =
        let here : at + 5 ≡ r.next = cc in
        omega (arith, begins-length (ascii "false") (drop at line) hf, length-drop at line)
    by false false false hn ht hf q = absurd (none-some r q)

-- ---- strings

grown-some : (text : List ℕ) (o : Option Decoded) {d : Decoded} → grown text o ≡ Some d → (e : Decoded) × (o ≡ Some e) × (d.size ≡ suc e.size)
unfolding grown
grown-some text None q = absurd (none-some _ q)
grown-some text (Some e) q = (e, refl, cc)

-- a string takes some of the bytes that are there
pub string_size : (k : ℕ) (s : List ℕ) {d : Decoded} → string_from k s ≡ Some d → (1 ≤ d.size) × (d.size ≤ length s)
unfolding string_from
string_size k [] q = absurd (none-some _ q)
string_size (suc k) (b ∷ s) q =
    let g = grown-some [] (string_from k s) q in
    let h = string_size k s g.1 in
    omega (arith, g.2)
string_size zero (b ∷ s) {d} q = by (piece_of (b ∷ s)) q (λ (k : ℕ) (e : Decoded) (r : string_from k s ≡ Some e). string_size k s r)
  where
    by : (p : Option Piece)
        → elim p [
          | Some Closes ↦ Some (record { text = []; size = 1 })
          | Some (Raw n) ↦ grown (take n (b ∷ s)) (string_from (n - 1) s)
          | Some (Escaped c n) ↦ grown (utf8 c) (string_from (n - 1) s)
          | None ↦ None
        ] ≡ Some d
        → ((k : ℕ) (e : Decoded) → string_from k s ≡ Some e → (1 ≤ e.size) × (e.size ≤ length s))
        → (1 ≤ d.size) × (d.size ≤ suc (length s))
    by (Some Closes) q f = let one : 1 ≡ d.size = cc in omega arith
    by (Some (Raw n)) q f =
        let g = grown-some (take n (b ∷ s)) (string_from (n - 1) s) q in
        let h = f (n - 1) g.0 g.1 in
        omega (arith, g.2)
    by (Some (Escaped c n)) q f =
        let g = grown-some (utf8 c) (string_from (n - 1) s) q in
        let h = f (n - 1) g.0 g.1 in
        omega (arith, g.2)
    by None q f = absurd (none-some _ q)

-- the opening quote of a string stands in the line
pub string_within : (line : List ℕ) (at : ℕ) {d : Decoded} → string_at line at ≡ Some d
    → (at < length line) × (string_from zero (drop (at + 1) line) ≡ Some d)
unfolding string_at
string_within line at {d} q = by (eqb (byte_at line at) quote) refl q
  where
    by : (b : Bool) → eqb (byte_at line at) quote ≡ b → cond b (string_from zero (drop (at + 1) line)) None ≡ Some d
        → (at < length line) × (string_from zero (drop (at + 1) line) ≡ Some d)
    by true h q = (byte_within line at (omega (arith, eqb-true (byte_at line at) quote h)), q)
    by false h q = absurd (none-some _ q)

pub string_next : (line : List ℕ) (at : ℕ) {d : Decoded} → string_at line at ≡ Some d → at + 1 + d.size ≤ length line
string_next line at q =
    let h = string_within line at q in
    omega (arith, string_size zero (drop (at + 1) line) h.1, length-drop (at + 1) line)

pub text_next : (line : List ℕ) (at : ℕ) {r : Read (List ℕ)} → text_at line at ≡ Some r → (at < r.next) × (r.next ≤ length line)
unfolding text_at bind
text_next line at {r} q = by (string_at line at) refl q
  where
    by : (o : Option Decoded) → string_at line at ≡ o → bind o (λ d. Some (record { value = d.text; next = at + 1 + d.size })) ≡ Some r
        → (at < r.next) × (r.next ≤ length line)
    by None h q = absurd (none-some _ q)
    by (Some d) h q =
        let here : at + 1 + d.size ≡ r.next = cc in
        omega (arith, string_next line at h)

pub name_next : (line : List ℕ) (at : ℕ) {r : Read (List ℕ)} → name_at line at ≡ Some r → (at < r.next) × (r.next ≤ length line)
unfolding name_at bind
name_next line at {r} q = by (text_at line at) refl q
  where
    colon : (t : Read (List ℕ)) (b : Bool) → text_at line at ≡ Some t → is_at line (skip_blanks line t.next) 0x3a ≡ b
        → cond b (Some (record { value = t.value; next = skip_blanks line (skip_blanks line t.next + 1) })) None ≡ Some r
        → (at < r.next) × (r.next ≤ length line)
    colon t true h e q =
        let here : skip_blanks line (skip_blanks line t.next + 1) ≡ r.next = cc in
        let p = at_within line (skip_blanks line t.next) 0x3a (omega arith) e in
        omega (arith, text_next line at h, blanks_from line t.next, blanks_from line (skip_blanks line t.next + 1), blanks_within line (skip_blanks line t.next + 1) (omega arith))
    colon t false h e q = absurd (none-some _ q)

    by : (o : Option (Read (List ℕ))) → text_at line at ≡ o
        → bind o (λ name. let p = skip_blanks line name.next in cond (is_at line p 0x3a) (Some (record { value = name.value; next = skip_blanks line (p + 1) })) None) ≡ Some r
        → (at < r.next) × (r.next ≤ length line)
    by None h q = absurd (none-some _ q)
    by (Some t) h q = colon t (is_at line (skip_blanks line t.next) 0x3a) h refl q

-- ---- separators

-- by their tests
pub separator_by : (close : ℕ) (line : List ℕ) (at : ℕ) {closes comma : Bool} →
    is_at line (skip_blanks line at) close ≡ closes → is_at line (skip_blanks line at) 0x2c ≡ comma
    → separator_at close line at ≡ cond closes (Some (Close (skip_blanks line at + 1))) (cond comma (Some (Comma (skip_blanks line (skip_blanks line at + 1)))) None)
unfolding separator_at
separator_by close line at c m = λ i. cond (c i) (Some (Close (skip_blanks line at + 1))) (cond (m i) (Some (Comma (skip_blanks line (skip_blanks line at + 1)))) None)

pub comma_next : (line : List ℕ) (at close : ℕ) {next : ℕ} → separator_at close line at ≡ Some (Comma next) → (at < next) × (next ≤ length line)
comma_next line at close {next} q = by (is_at line p close) (is_at line p 0x2c) refl (sym (separator_by close line at refl refl) ∙ q)
  where
    p : ℕ
    p = skip_blanks line at

    by : (c m : Bool) → is_at line p 0x2c ≡ m → cond c (Some (Close (p + 1))) (cond m (Some (Comma (skip_blanks line (p + 1)))) None) ≡ Some (Comma next)
        → (at < next) × (next ≤ length line)
    by true m e q = let z : ◌≡◌ {A = ℕ} 0 1 = cc in absurd (omega arith)
    by false true e q =
        let here : skip_blanks line (p + 1) ≡ next = cc in
        let within = at_within line p 0x2c (omega arith) e in
        omega (arith, blanks_from line at, blanks_from line (p + 1), blanks_within line (p + 1) (omega arith))
    by false false e q = let z : ◌≡◌ {A = ℕ} 0 1 = cc in absurd (omega arith)

pub close_next : (line : List ℕ) (at close : ℕ) {next : ℕ} → close < 256 → separator_at close line at ≡ Some (Close next) → (at < next) × (next ≤ length line)
close_next line at close {next} small q = by (is_at line p close) (is_at line p 0x2c) refl (sym (separator_by close line at refl refl) ∙ q)
  where
    p : ℕ
    p = skip_blanks line at

    by : (c m : Bool) → is_at line p close ≡ c → cond c (Some (Close (p + 1))) (cond m (Some (Comma (skip_blanks line (p + 1)))) None) ≡ Some (Close next)
        → (at < next) × (next ≤ length line)
    by true m e q =
        let here : p + 1 ≡ next = cc in
        let within = at_within line p close small e in
        omega (arith, blanks_from line at)
    by false true e q = let z : ◌≡◌ {A = ℕ} 0 1 = cc in absurd (omega arith)
    by false false e q = let z : ◌≡◌ {A = ℕ} 0 1 = cc in absurd (omega arith)

-- what a test answers
pub told_if : {A : Type 0} (test : Bool) (a : A) → then_some test a ≡ cond test (Some a) None
told_if true a = refl
told_if false a = refl

pub told_unless : {A : Type 0} (test : Bool) (a : A) → then_some (not test) a ≡ cond test None (Some a)
told_unless true a = refl
told_unless false a = refl
