-- Laws of lines by their places: the line at a place, and the lines behind it. Assumes nothing.
use Prim.Native.Nat.{ℕ, zero, suc, ◌+◌, ◌-◌, ◌≤◌, ◌<◌}
use native.Mathlib.Numerals.{add-one}
use native.Mathlib.Omega.{arith}
use mathlib.Core.Path.{◌≡◌, refl, sym, ap, ◌∙◌}
use mathlib.Core.Bool.{Bool, true, false, ◌&&◌, not, cond}
use mathlib.Core.List.{List, [], ◌∷◌}
use lib.Dec.{eqb, leb, ltb, leb-zero, leb-suc-zero, leb-suc-suc}
use lib.ListN.{length, get_or, take, drop, length-drop, drop_of_length-le}
use lib.Seq.{drop-cons, drop-drop, get_or-drop}
use borrow.Author.Tests.{eqb-false, eq-eqb, ne_eqb, leb-true, ltb-true, ltb-false}
use Rattle.json_text.specs.Lines.{lf, extend_line, with_byte, lines, first_line, line_at, line_behind, next_line, count_up_to}

-- past the text there is no line
pub lines_past : (text : List ℕ) (at : ℕ) → length text ≤ at → lines (drop at text) ≡ []
unfolding lines
lines_past text at h = rw (drop_of_length-le text {i = at} h)

-- where a line ends, byte by byte
pub end_past : (text : List ℕ) (at : ℕ) → length text ≤ at → at + length (line_at text at) ≡ at
unfolding line_at first_line
end_past text at h = rw (drop_of_length-le text {i = at} h) (omega arith)

pub end_lf : (text : List ℕ) (at : ℕ) → at < length text → get_or text at 0 ≡ lf → at + length (line_at text at) ≡ at
unfolding line_at first_line
end_lf text at h e = rw (drop-cons text at 0 h, eq-eqb (get_or text at 0) lf e) (omega arith)

pub end_onward : (text : List ℕ) (at : ℕ) → at < length text → (get_or text at 0 ≡ lf → ⊥) →
    at + length (line_at text at) ≡ at + 1 + length (line_at text (at + 1))
unfolding line_at first_line
end_onward text at h e = rw (add-one, drop-cons text at 0 h, ne_eqb (get_or text at 0) lf e) (omega arith)

-- a line is longer than `i` bytes if it has as many and the next is no LF
first_longer : (text : List ℕ) (i : ℕ) → i < length text
    → (leb i (length (first_line text)) && not (eqb (get_or text i 0) lf)) ≡ leb (suc i) (length (first_line text))
unfolding first_line
first_longer [] i h = absurd (omega arith)
first_longer (b ∷ text) zero h = at (eqb b lf)
  where
    at : (e : Bool) → (leb 0 (length (cond e [] (b ∷ first_line text))) && not e) ≡ leb 1 (length (cond e [] (b ∷ first_line text)))
    at true = refl
    at false = rw (leb-zero (suc (length (first_line text))), leb-suc-suc 0 (length (first_line text))) (sym (leb-zero (length (first_line text))))
first_longer (b ∷ text) (suc i) h = at (eqb b lf) (first_longer text i (omega arith))
  where
    at : (e : Bool) → (leb i (length (first_line text)) && not (eqb (get_or text i 0) lf)) ≡ leb (suc i) (length (first_line text))
        → (leb (suc i) (length (cond e [] (b ∷ first_line text))) && not (eqb (get_or text i 0) lf))
        ≡ leb (suc (suc i)) (length (cond e [] (b ∷ first_line text)))
    at true k = rw (leb-suc-zero i, leb-suc-zero (suc i))
    at false k = rw (leb-suc-suc i (length (first_line text)), leb-suc-suc (suc i) (length (first_line text))) k

pub line_longer : (text : List ℕ) (at i : ℕ) → at + i < length text
    → (leb i (length (line_at text at)) && not (eqb (get_or text (at + i) 0) lf)) ≡ leb (i + 1) (length (line_at text at))
unfolding line_at
line_longer text at i h = rw (add-one, ← get_or-drop) (first_longer (drop at text) i (omega (arith, length-drop at text)))

-- a place of a line is one from which it goes on to the same end
first_onward : (text : List ℕ) (n : ℕ) → n ≤ length (first_line text) → n + length (first_line (drop n text)) ≡ length (first_line text)
unfolding first_line
first_onward text zero h = omega arith
first_onward [] (suc n) h = absurd (omega arith)
first_onward (b ∷ text) (suc n) h = at (eqb b lf) (first_onward text n) h
  where
    at : (e : Bool) → (n ≤ length (first_line text) → n + length (first_line (drop n text)) ≡ length (first_line text))
        → suc n ≤ length (cond e [] (b ∷ first_line text)) → suc n + length (first_line (drop n text)) ≡ length (cond e [] (b ∷ first_line text))
    at true k h = absurd (omega arith)
    at false k h = omega (arith, k (omega arith))

pub end_later : (text : List ℕ) (at n : ℕ) → leb n (length (line_at text at)) ≡ true → at + n + length (line_at text (at + n)) ≡ at + length (line_at text at)
unfolding line_at
end_later text at n h = omega (arith, rw drop-drop at (first_onward (drop at text) n (leb-true n (length (first_line (drop at text))) h)))

-- a line is what stands from its place up to where it ends, within the text
first_part : (text : List ℕ) → take (length (first_line text)) text ≡ first_line text
unfolding first_line
first_part [] = refl
first_part (b ∷ text) = at (eqb b lf) (first_part text)
  where
    at : (e : Bool) → take (length (first_line text)) text ≡ first_line text
        → take (length (cond e [] (b ∷ first_line text))) (b ∷ text) ≡ cond e [] (b ∷ first_line text)
    at true h = refl
    at false h = ap (λ (l : List ℕ). b ∷ l) h

first_within : (text : List ℕ) → length (first_line text) ≤ length text
unfolding first_line
first_within [] = omega arith
first_within (b ∷ text) = at (eqb b lf) (first_within text)
  where
    at : (e : Bool) → length (first_line text) ≤ length text → length (cond e [] (b ∷ first_line text)) ≤ suc (length text)
    at true h = omega arith
    at false h = omega arith

pub line_part : (text : List ℕ) (at : ℕ) → take (at + length (line_at text at) - at) (drop at text) ≡ line_at text at
unfolding line_at
line_part text at = rw sized (first_part (drop at text))
  where
    sized : at + length (first_line (drop at text)) - at ≡ length (first_line (drop at text))
    sized = omega arith

pub line_past : (text : List ℕ) (at : ℕ) → length text ≤ at → line_at text at ≡ []
unfolding line_at first_line
line_past text at h = rw (drop_of_length-le text {i = at} h)

pub line_within : (text : List ℕ) (at : ℕ) → at ≤ length text → at + length (line_at text at) ≤ length text
unfolding line_at
line_within text at h = omega (arith, first_within (drop at text), length-drop at text)

-- the next line, by whether the line ends before the text
pub next_by : (text : List ℕ) (at : ℕ) {within : Bool} → ltb (at + length (line_at text at)) (length text) ≡ within →
    next_line text at ≡ cond within (at + length (line_at text at) + 1) (length text)
unfolding next_line line_behind
next_by text at e = λ i. cond (e i) (at + length (line_at text at) + 1) (length text)

-- and from where the line ends
pub next_from_end : (text : List ℕ) (at : ℕ) {end next : ℕ} → end ≡ at + length (line_at text at) → next ≡ line_behind text end → next ≡ next_line text at
unfolding next_line
next_from_end text at e f = f ∙ ap (line_behind text) e

pub next_within : (text : List ℕ) (at : ℕ) → next_line text at ≤ length text
next_within text at = is (ltb (at + length (line_at text at)) (length text)) refl
  where
    is : (t : Bool) → ltb (at + length (line_at text at)) (length text) ≡ t → next_line text at ≤ length text
    is true e = rw (next_by text at e) (omega (arith, ltb-true (at + length (line_at text at)) (length text) e))
    is false e = rw (next_by text at e) (omega arith)

pub next_after : (text : List ℕ) (at : ℕ) → at < length text → at < next_line text at
next_after text at h = is (ltb (at + length (line_at text at)) (length text)) refl
  where
    is : (t : Bool) → ltb (at + length (line_at text at)) (length text) ≡ t → at < next_line text at
    is true e = rw (next_by text at e) (omega arith)
    is false e = rw (next_by text at e) (omega arith)

-- a line ends before the next begins
pub line_before : (text : List ℕ) (at : ℕ) → at < length text → at + length (line_at text at) ≤ next_line text at
line_before text at h = let end = line_within text at (omega arith) in by (ltb (at + length (line_at text at)) (length text)) refl
  where
    by : (b : Bool) → ltb (at + length (line_at text at)) (length text) ≡ b → at + length (line_at text at) ≤ next_line text at
    by true q = let is = next_by text at q in omega arith
    by false q = let is = next_by text at q in omega (arith, ltb-false (at + length (line_at text at)) (length text) q, line_within text at (omega arith))

next_drop : (text : List ℕ) (at : ℕ) → drop (suc (length (line_at text at))) (drop at text) ≡ drop (next_line text at) text
next_drop text at = is (ltb (at + length (line_at text at)) (length text)) refl
  where
    is : (t : Bool) → ltb (at + length (line_at text at)) (length text) ≡ t
        → drop (suc (length (line_at text at))) (drop at text) ≡ drop (next_line text at) text
    is true e =
        let same : at + suc (length (line_at text at)) ≡ at + length (line_at text at) + 1 = omega arith in
        rw (next_by text at e, drop-drop, same)
    is false e =
        rw (next_by text at e, drop-drop, drop_of_length-le text {i = at + suc (length (line_at text at))} (omega (arith, ltb-false (at + length (line_at text at)) (length text) e)))
        (sym (drop_of_length-le text {i = length text} (omega arith)))

-- the first line, and the others
first_extended : (b : ℕ) (text : List ℕ) → extend_line b (lines text) ≡ (b ∷ first_line text) ∷ lines (drop (suc (length (first_line text))) text)
unfolding lines first_line with_byte extend_line
first_extended b [] = refl
first_extended b (a ∷ text) = at (eqb a lf) (first_extended a text)
  where
    at : (e : Bool) → extend_line a (lines text) ≡ (a ∷ first_line text) ∷ lines (drop (suc (length (first_line text))) text)
        → extend_line b (cond e ([] ∷ lines text) (extend_line a (lines text)))
        ≡ (b ∷ cond e [] (a ∷ first_line text)) ∷ lines (drop (suc (length (cond e [] (a ∷ first_line text)))) (a ∷ text))
    at true h = refl
    at false h = rw h

lines_first : (b : ℕ) (text : List ℕ) → lines (b ∷ text) ≡ first_line (b ∷ text) ∷ lines (drop (suc (length (first_line (b ∷ text)))) (b ∷ text))
unfolding lines first_line with_byte
lines_first b text = at (eqb b lf)
  where
    at : (e : Bool) → cond e ([] ∷ lines text) (extend_line b (lines text))
        ≡ cond e [] (b ∷ first_line text) ∷ lines (drop (suc (length (cond e [] (b ∷ first_line text)))) (b ∷ text))
    at true = refl
    at false = first_extended b text

-- the line at a place of the text, and those behind it
pub lines_here : (text : List ℕ) (at : ℕ) → at < length text → lines (drop at text) ≡ line_at text at ∷ lines (drop (next_line text at) text)
unfolding line_at
lines_here text at h = rw (← next_drop text at, drop-cons text at 0 h) (lines_first (get_or text at 0) (drop (suc at) text))

-- a text by its first line and what is behind that
pub lines_split : (text : List ℕ) {end next : ℕ} → eqb (length text) 0 ≡ false → end ≡ 0 + length (line_at text 0) → next ≡ line_behind text end
    → (lines text ≡ take end text ∷ lines (drop next text)) × (end ≤ length text) × (next ≤ length text)
lines_split text {end} {next} h e f = (
  lines_here text 0 some_byte ∙ (λ i. part i ∷ lines (drop (behind i) text)),
  omega (arith, line_within text 0 (omega arith)),
  omega (arith, next_within text 0, behind),
)
  where
    some_byte : 0 < length text
    some_byte = let none = eqb-false (length text) 0 h in omega arith

    part : line_at text 0 ≡ take end text
    part = sym (line_part text 0) ∙ ap (λ (k : ℕ). take k text) (omega arith)

    behind : next_line text 0 ≡ next
    behind = sym (next_from_end text 0 e f)

-- what a count that has come to `n` at a place tells of the number of lines
pub record Counted (text : List ℕ) (most n at : ℕ) : Type 0 where
  pub passed : n ≤ at
  pub place : at ≤ length text
  pub few : n ≤ most
  pub all : n + length (lines (drop at text)) ≡ length (lines text)

pub counted_more : (text : List ℕ) (most n at : ℕ) → Counted text most n at → at < length text → n + 1 ≤ most → Counted text most (n + 1) (next_line text at)
counted_more text most n at c h k =
    let after = next_after text at h in
    record {
      passed = omega (arith, c.passed);
      place = next_within text at;
      few = k;
      all = omega (arith, c.all, ap length (lines_here text at h));
    }

pub counted_past : (text : List ℕ) (most n at : ℕ) → Counted text most n at → at < length text → most < n + 1 → n + 1 ≡ count_up_to most text
unfolding count_up_to
counted_past text most n at c h k = omega (arith, c.few, c.all, ap length (lines_here text at h))

pub counted_all : (text : List ℕ) (most n at : ℕ) → Counted text most n at → length text ≤ at → n ≡ count_up_to most text
unfolding count_up_to
counted_all text most n at c h = omega (arith, c.few, c.all, ap length (lines_past text at h))

-- a text has no more lines than bytes
pub lines_most : (text : List ℕ) → length (lines text) ≤ length text
unfolding lines with_byte extend_line
lines_most [] = omega arith
lines_most (b ∷ text) = by (eqb b lf) (lines text) (lines_most text)
  where
    by : (e : Bool) (rest : List (List ℕ)) → length rest ≤ length text → length (cond e ([] ∷ rest) (extend_line b rest)) ≤ suc (length text)
    by true rest h = omega arith
    by false [] h = omega arith
    by false (line ∷ rest) h = omega arith
