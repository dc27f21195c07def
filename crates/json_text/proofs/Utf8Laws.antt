-- Laws of bytes by their places, of ranges, of sequences and of code points. Assumes nothing.
use Prim.Native.Nat.{ℕ, ◌+◌, ◌-◌, ◌/◌, ◌%◌, ◌≤◌, ◌<◌}
use native.Mathlib.Nat.{add-zero}
use native.Mathlib.Omega.{arith}
use mathlib.Core.Path.{◌≡◌, refl, sym, ap, ◌∙◌}
use mathlib.Core.Bool.{Bool, true, false, ◌&&◌, ◌||◌, cond, or-false, and-false}
use mathlib.Core.List.{List, [], ◌∷◌}
use Rattle.std.specs.Prelude.{Option, Some, None}
use Rattle.std.proofs.lemmas.Option.{none-some, same_Some}
use lib.Utf8.{encode}
use lib.Dec.{eqb, leb, ltb}
use lib.ListN.{length, get_or, drop, length-drop, drop_of_length-le, get_or-eq_default}
use lib.Seq.{drop-cons, get_or-drop}
use borrow.Author.Tests.{leb-true, leb-false, le-leb, lt-leb}
use Rattle.text.proofs.Laws.{and_split, isnt}
use Rattle.json_text.specs.Utf8.{no_byte, byte_at, between, lead_size, second, tail, followed, sequence, utf8}

-- ---- bytes by their places

-- within a text, what stands past its end does not matter
at_place : (s : List ℕ) (i d : ℕ) → i < length s → get_or s i d ≡ get_or s i 0
at_place s i d h =
    let one = drop-cons s i d h in
    let other = drop-cons s i 0 h in
    cc

-- the byte at a place of what is left from another on
pub byte_here : (s : List ℕ) (at i : ℕ) → at + i < length s → byte_at (drop at s) i ≡ get_or s (at + i) 0
byte_here s at i h = get_or-drop at s i no_byte ∙ at_place s (at + i) no_byte h

pub byte_first : (s : List ℕ) (at : ℕ) → at < length s → byte_at (drop at s) 0 ≡ get_or s at 0
byte_first s at h = byte_here s at 0 (omega arith) ∙ ap (λ (i : ℕ). get_or s i 0) (add-zero at)

pub byte_at_lem : (s : List ℕ) (i : ℕ) → i < length s → byte_at s i ≡ get_or s i 0
byte_at_lem s i h = at_place s i no_byte h

pub byte_past : (s : List ℕ) (i : ℕ) → length s ≤ i → byte_at s i ≡ no_byte
byte_past s i h = get_or-eq_default s no_byte h

-- ---- ranges

module _ (low high b : ℕ) where
  pub within : low ≤ b → b ≤ high → between low high b ≡ true
  unfolding between
  within h k = rw (le-leb low b h, le-leb b high k)

  pub under : b < low → between low high b ≡ false
  unfolding between
  under h = rw (lt-leb low b h)

  pub over : high < b → between low high b ≡ false
  unfolding between
  over h = rw (lt-leb b high h, and-false)

  pub within_told : between low high b ≡ true → (low ≤ b) × (b ≤ high)
  unfolding between
  within_told e = let h = and_split (leb low b) (leb b high) e in (leb-true low b h.0, leb-true b high h.1)

  pub outside : (low ≤ b → b ≤ high → ⊥) → between low high b ≡ false
  outside h = isnt (between low high b) (λ e. h (within_told e).0 (within_told e).1)

-- ---- sequences

-- the first byte, by the ranges
pub lead_by :
    (a : ℕ) {one two three four : Bool} →
    between 0x00 0x7f a ≡ one →
    between 0xc2 0xdf a ≡ two →
    between 0xe0 0xef a ≡ three →
    between 0xf0 0xf4 a ≡ four →
    lead_size a ≡ cond one (Some 1) (cond two (Some 2) (cond three (Some 3) (cond four (Some 4) None)))
unfolding lead_size
lead_by a p q r s = λ i. cond (p i) (Some 1) (cond (q i) (Some 2) (cond (r i) (Some 3) (cond (s i) (Some 4) None)))

pub lead_most : (a : ℕ) {n : ℕ} → lead_size a ≡ Some n → (1 ≤ n) × (n ≤ 4)
unfolding lead_size
lead_most a {n} = is (between 0x00 0x7f a) (between 0xc2 0xdf a) (between 0xe0 0xef a) (between 0xf0 0xf4 a)
  where
    sized : (k : ℕ) → 1 ≤ k → k ≤ 4 → Some k ≡ Some n → (1 ≤ n) × (n ≤ 4)
    sized k l m e = let z : k ≡ n = cc in (omega arith, omega arith)

    is : (p q r s : Bool) → cond p (Some 1) (cond q (Some 2) (cond r (Some 3) (cond s (Some 4) None))) ≡ Some n → (1 ≤ n) × (n ≤ 4)
    is true q r s e = sized 1 (omega arith) (omega arith) e
    is false true r s e = sized 2 (omega arith) (omega arith) e
    is false false true s e = sized 3 (omega arith) (omega arith) e
    is false false false true e = sized 4 (omega arith) (omega arith) e
    is false false false false e = absurd (none-some n e)

-- the second byte, by its range
pub second_by : (a b : ℕ) {low high : ℕ} →
    cond (eqb a 0xe0) 0xa0 (cond (eqb a 0xf0) 0x90 0x80) ≡ low → cond (eqb a 0xed) 0x9f (cond (eqb a 0xf4) 0x8f 0xbf) ≡ high → second a b ≡ between low high b
unfolding second
second_by a b p q = λ i. between (p i) (q i) b

second_none : (a : ℕ) → second a no_byte ≡ false
unfolding second
second_none a = over _ (cond (eqb a 0xed) 0x9f (cond (eqb a 0xf4) 0x8f 0xbf)) no_byte (is (eqb a 0xed) (eqb a 0xf4))
  where
    is : (p q : Bool) → cond p 0x9f (cond q 0x8f 0xbf) < no_byte
    is true q = omega arith
    is false true = omega arith
    is false false = omega arith

no_more : (n k : ℕ) → (leb n k || false) ≡ true → n ≤ k
no_more n k e = leb-true n k (sym (or-false (leb n k)) ∙ e)

-- the bytes behind the first are there
followed_there : (n : ℕ) (s : List ℕ) → lead_size (byte_at s 0) ≡ Some n → followed n s ≡ true → n ≤ length s
unfolding tail between
followed_there n [] h e = unfold lead_size between in absurd (none-some n h)
followed_there n (a ∷ []) h e = no_more _ _ (ap (λ (t : Bool). leb n 1 || t) (sym (second_none a)) ∙ (and_split _ _ e).0)
followed_there n (a ∷ b ∷ []) h e = no_more _ _ (and_split _ _ (and_split (leb n 1 || second a b) _ e).1).0
followed_there n (a ∷ b ∷ c ∷ []) h e = no_more _ _ (and_split (leb n 2 || tail c) _ (and_split (leb n 1 || second a b) _ e).1).1
followed_there n (a ∷ b ∷ c ∷ d ∷ s) h e = omega (arith, lead_most a h)

pub sequence_by : (s : List ℕ) {n : ℕ} {whole : Bool} → lead_size (byte_at s 0) ≡ Some n → followed n s ≡ whole → sequence s ≡ cond whole (Some n) None
unfolding sequence
sequence_by s {n} h e = rw h (λ i. cond (e i) (Some n) None)

pub sequence_none : (s : List ℕ) → lead_size (byte_at s 0) ≡ None → sequence s ≡ None
unfolding sequence
sequence_none s h = rw h

-- past the text there is none
pub sequence_past : (line : List ℕ) (at : ℕ) → length line ≤ at → sequence (drop at line) ≡ None
unfolding sequence lead_size between
sequence_past line at h = rw (drop_of_length-le line {i = at} h)

-- a byte that a sequence of `n` bytes does not have is not asked, and another is
pub spared : (n k : ℕ) (t : Bool) → n ≤ k → (leb n k || t) ≡ true
spared n k t h = rw (le-leb n k h)

pub asked : (n k : ℕ) {t b : Bool} → k < n → t ≡ b → (leb n k || t) ≡ b
asked n k h e = rw (lt-leb n k h) e

-- the bytes at a place, of a sequence of `n` bytes that are there
pub followed_at :
    (line : List ℕ) (at n : ℕ) {p q r : Bool} →
    1 ≤ n →
    at + n ≤ length line →
    (leb n 1 || second (get_or line at 0) (get_or line (at + 1) 0)) ≡ p →
    (leb n 2 || tail (get_or line (at + 2) 0)) ≡ q →
    (leb n 3 || tail (get_or line (at + 3) 0)) ≡ r →
    (p && (q && r)) ≡ followed n (drop at line)
followed_at line at n h room p q r =
    rw (byte_first line at (omega arith), byte_asked 1 (second (get_or line at 0)), byte_asked 2 tail, byte_asked 3 tail)
    (λ i. sym p i && (sym q i && sym r i))
  where
    byte_asked : (k : ℕ) (may : ℕ → Bool) → (leb n k || may (byte_at (drop at line) k)) ≡ (leb n k || may (get_or line (at + k) 0))
    byte_asked k may = is (leb n k) refl
      where
        is : (t : Bool) → leb n k ≡ t → (t || may (byte_at (drop at line) k)) ≡ (t || may (get_or line (at + k) 0))
        is true f = refl
        is false f = ap may (byte_here line at k (omega (arith, leb-false n k f)))

-- the sequence at a place, whose first byte asks for `n` bytes
module _ (line : List ℕ) (at n : ℕ) (h : at < length line) (e : lead_size (get_or line at 0) ≡ Some n) where
  lead_here : lead_size (byte_at (drop at line) 0) ≡ Some n
  lead_here = ap lead_size (byte_first line at h) ∙ e

  -- one that the text cuts off is none
  pub sequence_cut : length line - at < n → sequence (drop at line) ≡ None
  sequence_cut k =
      sequence_by (drop at line) lead_here
      (isnt (followed n (drop at line)) (λ f. omega (arith, followed_there n (drop at line) lead_here f, length-drop at line)))

  -- another, by the bytes behind the first
  pub sequence_at : {whole : Bool} → followed n (drop at line) ≡ whole → sequence (drop at line) ≡ cond whole (Some n) None
  sequence_at f = sequence_by (drop at line) lead_here f

-- a sequence has one to four bytes, all in the text
pub sequence_size : (s : List ℕ) {n : ℕ} → sequence s ≡ Some n → (1 ≤ n) × (n ≤ 4) × (n ≤ length s)
sequence_size s {n} = lead (lead_size (byte_at s 0)) refl
  where
    lead : (o : Option ℕ) → lead_size (byte_at s 0) ≡ o → sequence s ≡ Some n → (1 ≤ n) × (n ≤ 4) × (n ≤ length s)
    lead None h q = absurd (none-some n (sym (sequence_none s h) ∙ q))
    lead (Some k) h q = whole (followed k s) refl
      where
        whole : (t : Bool) → followed k s ≡ t → (1 ≤ n) × (n ≤ 4) × (n ≤ length s)
        whole true e =
            let z : k ≡ n = same_Some k n (sym (sequence_by s h e) ∙ q) in
            let most = lead_most (byte_at s 0) h in
            let there = followed_there k s h e in
            (omega arith, omega arith, omega arith)
        whole false e = absurd (none-some n (sym (sequence_by s h e) ∙ q))

-- ASCII
pub sequence_ascii : (s : List ℕ) → byte_at s 0 ≤ 0x7f → sequence s ≡ Some 1
sequence_ascii s h = sequence_by s (lead_by (byte_at s 0) (within 0x00 0x7f (byte_at s 0) (omega arith) h) refl refl refl) refl

-- ---- code points

pub utf8_by :
    (c : ℕ) {one two three : Bool} →
    ltb c 0x80 ≡ one →
    ltb c 0x800 ≡ two →
    ltb c 0x10000 ≡ three →
    utf8 c
    ≡ cond one (c ∷ [])
    (cond two ((0xc0 + c / 64) ∷ (0x80 + c % 64) ∷ [])
    (cond three ((0xe0 + c / 4096) ∷ (0x80 + c / 64 % 64) ∷ (0x80 + c % 64) ∷ [])
    ((0xf0 + c / 262144) ∷ (0x80 + c / 4096 % 64) ∷ (0x80 + c / 64 % 64) ∷ (0x80 + c % 64) ∷ [])))
unfolding utf8
utf8_by c p q r =
    λ i.
    cond (p i) (c ∷ [])
    (cond (q i) ((0xc0 + c / 64) ∷ (0x80 + c % 64) ∷ [])
    (cond (r i) ((0xe0 + c / 4096) ∷ (0x80 + c / 64 % 64) ∷ (0x80 + c % 64) ∷ [])
    ((0xf0 + c / 262144) ∷ (0x80 + c / 4096 % 64) ∷ (0x80 + c / 64 % 64) ∷ (0x80 + c % 64) ∷ [])))

-- the library's word for the same
pub encoded-is : (c : ℕ) → encode c ≡ utf8 c
unfolding encode utf8
encoded-is c = refl

-- one to four bytes
pub utf8_size : (c : ℕ) → (1 ≤ length (utf8 c)) × (length (utf8 c) ≤ 4)
utf8_size c = is (ltb c 0x80) (ltb c 0x800) (ltb c 0x10000) refl refl refl
  where
    is : (p q r : Bool) → ltb c 0x80 ≡ p → ltb c 0x800 ≡ q → ltb c 0x10000 ≡ r → (1 ≤ length (utf8 c)) × (length (utf8 c) ≤ 4)
    is true q r e f g = rw (utf8_by c e f g) (omega arith)
    is false true r e f g = rw (utf8_by c e f g) (omega arith)
    is false false true e f g = rw (utf8_by c e f g) (omega arith)
    is false false false e f g = rw (utf8_by c e f g) (omega arith)
