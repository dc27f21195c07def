-- Laws of the pieces of a string: escapes by their tests, and how long pieces are. Assumes nothing.
use Rattle.std.specs.Prelude.{Option, Some, None, option_map}
use Rattle.std.proofs.lemmas.Option.{none-some, same_Some}
use Rattle.text.specs.Maybe.{bind}
use Prim.Native.Nat.{ℕ, ◌+◌, ◌-◌, ◌*◌, ◌≤◌, ◌<◌}
use native.Mathlib.Omega.{arith}
use mathlib.Core.Path.{◌≡◌, refl, sym, ap, ◌∙◌}
use mathlib.Core.Bool.{Bool, true, false, ◌&&◌, ◌||◌, not, cond}
use mathlib.Core.List.{List, [], ◌∷◌}
use lib.Dec.{eqb, ltb}
use Rattle.text.proofs.Laws.{and_split, begins-length}
use lib.ListN.{length, get_or, drop, length-drop}
use borrow.Author.Tests.{lt-ltb, le-ltb, ltb-true, ltb-false, eqb-true, not-true}
use Rattle.text.specs.Text.{begins}
use Rattle.json_text.specs.Utf8.{no_byte, byte_at, between, sequence, utf8}
use Rattle.json_text.specs.Strings.{quote, backslash, hex_digit, hex4, short_escape, low_surrogate, unicode, escape, raw_piece, is_plain, piece_of}
use Rattle.json_text.specs.declared.Piece.{Piece}
use Rattle.json_text.specs.declared.Piece.TheVariants.{Closes, Raw, Escaped}
use Rattle.json_text.proofs.Utf8Laws.{byte_here, byte_first, byte_past, within_told, sequence_size, sequence_ascii, sequence_past, utf8_by, utf8_size}

-- a hexadecimal digit, by its tests
pub hex_by :
    (b : ℕ) {x y z : Bool} →
    between 0x30 0x39 b ≡ x →
    between 0x41 0x46 b ≡ y →
    between 0x61 0x66 b ≡ z →
    hex_digit b ≡ cond x (Some (b - 0x30)) (cond y (Some (b - 0x41 + 10)) (cond z (Some (b - 0x61 + 10)) None))
unfolding hex_digit
hex_by b x y z = λ i. cond (x i) (Some (b - 0x30)) (cond (y i) (Some (b - 0x41 + 10)) (cond (z i) (Some (b - 0x61 + 10)) None))

pub hex_most : (b : ℕ) {d : ℕ} → hex_digit b ≡ Some d → d < 16
unfolding hex_digit
hex_most b {d} = at (between 0x30 0x39 b) (between 0x41 0x46 b) (between 0x61 0x66 b) refl refl refl
  where
    at : (x y z : Bool) → between 0x30 0x39 b ≡ x → between 0x41 0x46 b ≡ y → between 0x61 0x66 b ≡ z →
        cond x (Some (b - 0x30)) (cond y (Some (b - 0x41 + 10)) (cond z (Some (b - 0x61 + 10)) None)) ≡ Some d → d < 16
    at true y z e f g q = omega (arith, within_told 0x30 0x39 b e, same_Some _ d q)
    at false true z e f g q = omega (arith, within_told 0x41 0x46 b f, same_Some _ d q)
    at false false true e f g q = omega (arith, within_told 0x61 0x66 b g, same_Some _ d q)
    at false false false e f g q = absurd (none-some d q)

-- four digits, by their values
pub hex4_by :
    (s : List ℕ) {a b c d : Option ℕ} →
    hex_digit (byte_at s 0) ≡ a →
    hex_digit (byte_at s 1) ≡ b →
    hex_digit (byte_at s 2) ≡ c →
    hex_digit (byte_at s 3) ≡ d →
    hex4 s ≡ bind a (λ a. bind b (λ b. bind c (λ c. bind d (λ d. Some (a * 4096 + b * 256 + c * 16 + d)))))
unfolding hex4
hex4_by s a b c d = λ i. bind (a i) (λ a. bind (b i) (λ b. bind (c i) (λ c. bind (d i) (λ d. Some (a * 4096 + b * 256 + c * 16 + d)))))

-- four digits that are there, and write a number below 65,536
pub record Hex4 (s : List ℕ) (u : ℕ) : Type 0 where
  pub there : 4 ≤ length s
  pub most : u < 0x10000

pub hex4_told : (s : List ℕ) {u : ℕ} → hex4 s ≡ Some u → Hex4 s u
unfolding bind
hex4_told s {u} q = at (hex_digit (byte_at s 0)) (hex_digit (byte_at s 1)) (hex_digit (byte_at s 2)) (hex_digit (byte_at s 3)) refl refl refl refl
  where
    at : (a b c d : Option ℕ) → hex_digit (byte_at s 0) ≡ a → hex_digit (byte_at s 1) ≡ b → hex_digit (byte_at s 2) ≡ c → hex_digit (byte_at s 3) ≡ d → Hex4 s u
    at None b c d e f g h = absurd (none-some u (sym (hex4_by s e f g h) ∙ q))
    at (Some a) None c d e f g h = absurd (none-some u (sym (hex4_by s e f g h) ∙ q))
    at (Some a) (Some b) None d e f g h = absurd (none-some u (sym (hex4_by s e f g h) ∙ q))
    at (Some a) (Some b) (Some c) None e f g h = absurd (none-some u (sym (hex4_by s e f g h) ∙ q))
    at (Some a) (Some b) (Some c) (Some d) e f g h =
        let number : a * 4096 + b * 256 + c * 16 + d ≡ u = same_Some _ u (sym (hex4_by s e f g h) ∙ q) in
        record {
          there = there (ltb (length s) 4) refl;
          most = omega (arith, number, hex_most (byte_at s 0) e, hex_most (byte_at s 1) f, hex_most (byte_at s 2) g, hex_most (byte_at s 3) h);
        }
      where
        no_digit : hex_digit no_byte ≡ None
        no_digit = unfold hex_digit between in refl

        there : (t : Bool) → ltb (length s) 4 ≡ t → 4 ≤ length s
        there true k = absurd (none-some d (sym no_digit ∙ (sym (ap hex_digit (byte_past s 3 (omega (arith, ltb-true _ _ k)))) ∙ h)))
        there false k = ltb-false _ _ k

-- a digit at a place of the line
pub digit_here : (line : List ℕ) (at k : ℕ) {r o : Option ℕ} → at + k < length line → r ≡ hex_digit (get_or line (at + k) 0) → r ≡ o → hex_digit (byte_at (drop at line) k) ≡ o
digit_here line at k h e f = ap hex_digit (byte_here line at k h) ∙ (sym e ∙ f)

pub digit_first : (line : List ℕ) (at : ℕ) {r o : Option ℕ} → at < length line → r ≡ hex_digit (get_or line at 0) → r ≡ o → hex_digit (byte_at (drop at line) 0) ≡ o
digit_first line at h e f = ap hex_digit (byte_first line at h) ∙ (sym e ∙ f)

-- fewer than four bytes
pub hex4_short : (s : List ℕ) → length s < 4 → hex4 s ≡ None
hex4_short s h = at (hex4 s) refl
  where
    at : (o : Option ℕ) → hex4 s ≡ o → hex4 s ≡ None
    at None e = e
    at (Some u) e = absurd (omega (arith, (hex4_told s e).there))

-- a low surrogate, by its tests
pub low_by :
    (s : List ℕ) {opens : Bool} {u : Option ℕ} →
    begins (backslash ∷ 0x75 ∷ []) s ≡ opens →
    hex4 (drop 2 s) ≡ u →
    low_surrogate s ≡ cond opens (bind u (λ low. cond (between 0xdc00 0xdfff low) (Some low) None)) None
unfolding low_surrogate
low_by s o u = λ i. cond (o i) (bind (u i) (λ low. cond (between 0xdc00 0xdfff low) (Some low) None)) None

pub low_shut : (s : List ℕ) → begins (backslash ∷ 0x75 ∷ []) s ≡ false → low_surrogate s ≡ None
low_shut s e = low_by s e refl

pub begins_two : (s : List ℕ) → begins (backslash ∷ 0x75 ∷ []) s ≡ true → 2 ≤ length s
begins_two s e = begins-length (backslash ∷ 0x75 ∷ []) s e

-- one takes six bytes
pub record Low (s : List ℕ) (low : ℕ) : Type 0 where
  pub there : 6 ≤ length s
  pub least : 0xdc00 ≤ low
  pub most : low ≤ 0xdfff

pub low_told : (s : List ℕ) {low : ℕ} → low_surrogate s ≡ Some low → Low s low
unfolding bind
low_told s {low} q = at (begins (backslash ∷ 0x75 ∷ []) s) (hex4 (drop 2 s)) refl refl
  where
    at : (o : Bool) (u : Option ℕ) → begins (backslash ∷ 0x75 ∷ []) s ≡ o → hex4 (drop 2 s) ≡ u → Low s low
    at true (Some u) e f = inside (between 0xdc00 0xdfff u) refl (sym (low_by s e f) ∙ q)
      where
        inside : (t : Bool) → between 0xdc00 0xdfff u ≡ t → cond t (Some u) None ≡ Some low → Low s low
        inside true g k =
            let z = same_Some u low k in
            let w = within_told 0xdc00 0xdfff u g in
            record { there = omega (arith, (hex4_told (drop 2 s) f).there, length-drop 2 s); least = omega arith; most = omega arith }
        inside false g k = absurd (none-some low k)
    at true None e f = absurd (none-some low (sym (low_by s e f) ∙ q))
    at false u e f = absurd (none-some low (sym (low_by s e f) ∙ q))

-- a Unicode escape, by its tests
pub unicode_none : (s : List ℕ) → hex4 s ≡ None → unicode s ≡ None
unfolding unicode bind
unicode_none s e = rw e

pub unicode_by :
    (s : List ℕ) {u : ℕ} {high lone : Bool} {low : Option ℕ} →
    hex4 s ≡ Some u →
    between 0xd800 0xdbff u ≡ high →
    low_surrogate (drop 4 s) ≡ low →
    between 0xdc00 0xdfff u ≡ lone →
    unicode s
    ≡ cond high (bind low (λ low. Some (Escaped (0x10000 + (u - 0xd800) * 0x400 + (low - 0xdc00)) 12))) (cond lone None (Some (Escaped u 6)))
unfolding unicode bind
unicode_by s {u} e h l k =
    rw e (λ i. cond (h i) (bind (l i) (λ low. Some (Escaped (0x10000 + (u - 0xd800) * 0x400 + (low - 0xdc00)) 12))) (cond (k i) None (Some (Escaped u 6))))

-- an escape, by its tests
pub escape_by :
    (s : List ℕ) {u : Bool} {short : Option ℕ} →
    eqb (byte_at s 0) 0x75 ≡ u →
    short_escape (byte_at s 0) ≡ short →
    escape s ≡ cond u (unicode (drop 1 s)) (option_map (λ c. Escaped c 2) short)
unfolding escape
escape_by s u n = λ i. cond (u i) (unicode (drop 1 s)) (option_map (λ c. Escaped c 2) (n i))

-- a piece, by its tests
pub piece_by :
    (s : List ℕ) {closes escapes control : Bool} →
    eqb (byte_at s 0) quote ≡ closes →
    eqb (byte_at s 0) backslash ≡ escapes →
    ltb (byte_at s 0) 0x20 ≡ control →
    piece_of s ≡ cond closes (Some Closes) (cond escapes (escape (drop 1 s)) (cond control None (raw_piece (sequence s))))
unfolding piece_of
piece_by s c e k = λ i. cond (c i) (Some Closes) (cond (e i) (escape (drop 1 s)) (cond (k i) None (raw_piece (sequence s))))

pub raw_by : {o n : Option ℕ} → o ≡ n → raw_piece o ≡ option_map Raw n
unfolding raw_piece
raw_by e = ap (option_map Raw) e

-- nothing is left
pub escape_nothing : escape [] ≡ None
unfolding escape short_escape
escape_nothing = refl

pub piece_nothing : piece_of [] ≡ None
unfolding piece_of raw_piece
piece_nothing = rw (sequence_past [] 0 (omega arith))

-- how long the pieces are, of those that have so much room, and how large a code point is
pub record Sized (room : ℕ) (p : Option Piece) : Type 0 where
  pub raw : (n : ℕ) → p ≡ Some (Raw n) → (1 ≤ n) × (n ≤ room)
  pub escaped : (c n : ℕ) → p ≡ Some (Escaped c n) → (1 ≤ n) × (n ≤ room) × (c < 0x110000) × (length (utf8 c) ≤ n)

sized-bad : (room : ℕ) → Sized room None
sized-bad room =
    record {
      raw = λ n e. let z : ◌≡◌ {A = ℕ} 0 1 = cc in absurd (omega arith);
      escaped = λ c n e. let z : ◌≡◌ {A = ℕ} 0 1 = cc in absurd (omega arith);
    }

sized-closes : (room : ℕ) → Sized room (Some Closes)
sized-closes room =
    record {
      raw = λ n e. let z : ◌≡◌ {A = ℕ} 0 1 = cc in absurd (omega arith);
      escaped = λ c n e. let z : ◌≡◌ {A = ℕ} 0 1 = cc in absurd (omega arith);
    }

sized-raw : (room n : ℕ) → 1 ≤ n → n ≤ room → Sized room (Some (Raw n))
sized-raw room n h k =
    record {
      raw = λ m e. let z : n ≡ m = cc in (omega arith, omega arith);
      escaped = λ c m e. let z : ◌≡◌ {A = ℕ} 0 1 = cc in absurd (omega arith);
    }

sized-escaped : (room c n : ℕ) → 1 ≤ n → n ≤ room → c < 0x110000 → length (utf8 c) ≤ n → Sized room (Some (Escaped c n))
sized-escaped room c n h k l m =
    record {
      raw = λ o e. let z : ◌≡◌ {A = ℕ} 0 1 = cc in absurd (omega arith);
      escaped = λ d o e. let y : c ≡ d = cc in let z : n ≡ o = cc in (omega arith, omega arith, omega arith, rw (← y) (omega arith));
    }

unicode-sized : (s : List ℕ) → Sized (length s + 2) (unicode s)
unfolding bind
unicode-sized s = at (hex4 s) refl
  where
    at : (o : Option ℕ) → hex4 s ≡ o → Sized (length s + 2) (unicode s)
    at None e = rw (unicode_none s e) (sized-bad _)
    at (Some u) e = by (between 0xd800 0xdbff u) (low_surrogate (drop 4 s)) (between 0xdc00 0xdfff u) refl refl refl
      where
        four : Hex4 s u
        four = hex4_told s e

        by : (h : Bool) (l : Option ℕ) (k : Bool) → between 0xd800 0xdbff u ≡ h → low_surrogate (drop 4 s) ≡ l → between 0xdc00 0xdfff u ≡ k
            → Sized (length s + 2) (unicode s)
        by true None k f g h = rw (unicode_by s e f g h) (sized-bad _)
        by true (Some low) k f g h =
            let t = low_told (drop 4 s) g in
            let w = within_told 0xd800 0xdbff u f in
            rw (unicode_by s e f g h)
            (sized-escaped _ (0x10000 + (u - 0xd800) * 0x400 + (low - 0xdc00)) 12
            (omega arith)
            (omega (arith, t.there, length-drop 4 s))
            (omega (arith, t.least, t.most))
            (omega (arith, utf8_size (0x10000 + (u - 0xd800) * 0x400 + (low - 0xdc00)))))
        by false l true f g h = rw (unicode_by s e f g h) (sized-bad _)
        by false l false f g h =
            rw (unicode_by s e f g h)
            (sized-escaped _ u 6 (omega arith) (omega (arith, four.there)) (omega (arith, four.most)) (omega (arith, utf8_size u)))

short_nothing : short_escape no_byte ≡ None
unfolding short_escape
short_nothing = refl

short_ascii : (e : ℕ) {c : ℕ} → short_escape e ≡ Some c → c < 0x80
unfolding short_escape
short_ascii e {c} = at (eqb e quote) (eqb e backslash) (eqb e 0x2f) (eqb e 0x62) (eqb e 0x66) (eqb e 0x6e) (eqb e 0x72) (eqb e 0x74) refl refl refl
  where
    at : (q b s x f n r t : Bool) → eqb e quote ≡ q → eqb e backslash ≡ b → eqb e 0x2f ≡ s →
        cond (q || (b || s)) (Some e) (cond x (Some 0x08) (cond f (Some 0x0c) (cond n (Some 0x0a) (cond r (Some 0x0d) (cond t (Some 0x09) None))))) ≡ Some c → c < 0x80
    at true b s x f n r t i j k q = omega (arith, eqb-true e quote i, same_Some e c q)
    at false true s x f n r t i j k q = omega (arith, eqb-true e backslash j, same_Some e c q)
    at false false true x f n r t i j k q = omega (arith, eqb-true e 0x2f k, same_Some e c q)
    at false false false true f n r t i j k q = omega (arith, same_Some 0x08 c q)
    at false false false false true n r t i j k q = omega (arith, same_Some 0x0c c q)
    at false false false false false true r t i j k q = omega (arith, same_Some 0x0a c q)
    at false false false false false false true t i j k q = omega (arith, same_Some 0x0d c q)
    at false false false false false false false true i j k q = omega (arith, same_Some 0x09 c q)
    at false false false false false false false false i j k q = absurd (none-some c q)

escape-sized : (s : List ℕ) → Sized (length s + 1) (escape s)
escape-sized s = at (eqb (byte_at s 0) 0x75) (short_escape (byte_at s 0)) refl refl
  where
    some_byte : (byte_at s 0 ≡ no_byte → ⊥) → 1 ≤ length s
    some_byte h = here (ltb 0 (length s)) refl
      where
        here : (b : Bool) → ltb 0 (length s) ≡ b → 1 ≤ length s
        here true e = ltb-true 0 (length s) e
        here false e = absurd (h (byte_past s 0 (ltb-false 0 (length s) e)))

    at : (u : Bool) (o : Option ℕ) → eqb (byte_at s 0) 0x75 ≡ u → short_escape (byte_at s 0) ≡ o → Sized (length s + 1) (escape s)
    at true o e f =
        let l = some_byte (λ k. omega (arith, eqb-true (byte_at s 0) 0x75 e)) in
        rw (escape_by s e f, (sym room)) (unicode-sized (drop 1 s))
      where
        room : length (drop 1 s) + 2 ≡ length s + 1
        room = omega (arith, length-drop 1 s, some_byte (λ k. omega (arith, eqb-true (byte_at s 0) 0x75 e)))
    at false None e f = rw (escape_by s e f) (sized-bad _)
    at false (Some c) e f =
        let l = some_byte (λ k. none-some c (sym short_nothing ∙ (sym (ap short_escape k) ∙ f))) in
        let a = short_ascii (byte_at s 0) f in
        rw (escape_by s e f)
        (sized-escaped _ c 2 (omega arith) (omega arith) (omega arith) (rw (utf8_by c (lt-ltb c 0x80 a) refl refl) (omega arith)))

-- every piece
pub pieces : (s : List ℕ) → Sized (length s) (piece_of s)
pieces s = at (eqb (byte_at s 0) quote) (eqb (byte_at s 0) backslash) (ltb (byte_at s 0) 0x20) (sequence s) refl refl refl refl
  where
    at : (q b k : Bool) (n : Option ℕ) → eqb (byte_at s 0) quote ≡ q → eqb (byte_at s 0) backslash ≡ b → ltb (byte_at s 0) 0x20 ≡ k → sequence s ≡ n
        → Sized (length s) (piece_of s)
    at true b k n e f g h = rw (piece_by s e f g) (sized-closes _)
    at false true k n e f g h = rw (piece_by s e f g, sym room) (escape-sized (drop 1 s))
      where
        here : (b : Bool) → ltb 0 (length s) ≡ b → 1 ≤ length s
        here true l = ltb-true 0 (length s) l
        here false l = absurd (omega (arith, byte_past s 0 (ltb-false 0 (length s) l), eqb-true (byte_at s 0) backslash f))

        room : length (drop 1 s) + 1 ≡ length s
        room = omega (arith, length-drop 1 s, here (ltb 0 (length s)) refl)
    at false false true n e f g h = rw (piece_by s e f g) (sized-bad _)
    at false false false None e f g h = rw (piece_by s e f g, raw_by h) (sized-bad _)
    at false false false (Some n) e f g h =
        let z = sequence_size s h in
        rw (piece_by s e f g, raw_by h) (sized-raw _ n (omega arith) (omega arith))

pub raw_size : (s : List ℕ) (n : ℕ) → piece_of s ≡ Some (Raw n) → (1 ≤ n) × (n ≤ length s)
raw_size s n e = (pieces s).raw n e

pub escaped_size : (s : List ℕ) (c n : ℕ) → piece_of s ≡ Some (Escaped c n) → (1 ≤ n) × (n ≤ length s)
escaped_size s c n e = let z = (pieces s).escaped c n e in (z.0, z.1)

-- an escape is no shorter than what it stands for
pub escaped_shrinks : (s : List ℕ) (c n : ℕ) → piece_of s ≡ Some (Escaped c n) → length (utf8 c) ≤ n
escaped_shrinks s c n e = ((pieces s).escaped c n e).3

-- a byte that is a character by itself
pub plain_by : (b : ℕ) {q k t : Bool} → eqb b quote ≡ q → eqb b backslash ≡ k → between 0x20 0x7f b ≡ t → is_plain b ≡ (not q && (not k && t))
unfolding is_plain
plain_by b q k t = λ i. not (q i) && (not (k i) && t i)

pub plain_raw : (line : List ℕ) (i : ℕ) → i < length line → is_plain (get_or line i 0) ≡ true → piece_of (drop i line) ≡ Some (Raw 1)
unfolding is_plain
plain_raw line i h e =
    let s = drop i line in
    let here = byte_first line i h in
    let a = and_split (not (eqb (get_or line i 0) quote)) _ e in
    let b = and_split (not (eqb (get_or line i 0) backslash)) _ a.1 in
    let t = within_told 0x20 0x7f (get_or line i 0) b.1 in
    piece_by s
    (ap (λ (x : ℕ). eqb x quote) here ∙ not-true _ a.0)
    (ap (λ (x : ℕ). eqb x backslash) here ∙ not-true _ b.0)
    (ap (λ (x : ℕ). ltb x 0x20) here ∙ le-ltb _ _ t.0)
    ∙ raw_by (sequence_ascii s (rw here t.1))
