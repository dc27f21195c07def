-- Laws of plain strings: their ends byte by byte, and that such a string is its own decoded text. Assumes nothing.
use Prim.Native.Nat.{ℕ, zero, suc, ◌+◌, ◌-◌, ◌≤◌, ◌<◌}
use native.Mathlib.Nat.{zero-add}
use native.Mathlib.Omega.{arith}
use mathlib.Core.Path.{◌≡◌, refl, sym, ap, ◌∙◌}
use mathlib.Core.Bool.{Bool, true, false, cond}
use mathlib.Core.List.{List, [], ◌∷◌, append-nil}
use Rattle.std.specs.Prelude.{Option, Some, None, Result, Ok, Err}
use Rattle.text.specs.Maybe.{bind}
use lib.Dec.{eqb}
use borrow.Author.Tests.{eqb-true}
use lib.ListN.{length, take, drop, drop_of_length-le}
use lib.Seq.{drop-drop}
use Rattle.text.specs.Text.{fits_at, pasted, written}
use Rattle.json_text.specs.Utf8.{byte_at, between}
use Rattle.json_text.specs.Strings.{quote, Decoded, is_plain, piece_of, string_from, string_at}
use Rattle.json_text.specs.Json.{text, is_at, kind_of, text_at, read_as, value_at}
use Rattle.json_text.specs.Access.{copied_text, copied, decoded_into}
use Rattle.json_text.specs.Plain.{plains, skip_plains, plain_text}
use Rattle.json_text.specs.declared.Piece.TheVariants.{Closes}
use Rattle.json_text.proofs.PieceLaws.{piece_by, plain_raw}
use Rattle.json_text.proofs.StringLaws.{ahead, ahead_nothing, ahead-ahead, string_closes, string_raw}
use Rattle.json_text.proofs.ScanLaws.{byte_here, at_within}
use Rattle.json_text.proofs.Utf8Laws.{byte_first}
use Rattle.json_text.proofs.ValueLaws.{value_as, value_by}
use Rattle.json_text.specs.declared.DecodeError.TheVariants.{TooLong}
use Rattle.json_text.specs.declared.DecodeError.{DecodeError}

-- ---- byte by byte

pub plains_past : (line : List ℕ) (at : ℕ) → length line ≤ at → skip_plains line at ≡ at
unfolding skip_plains
plains_past line at h = rw (drop_of_length-le line {i = at} h) (omega arith)

pub plains_most : (s : List ℕ) → plains s ≤ length s
plains_most [] = omega arith
plains_most (b ∷ s) = at (is_plain b) (plains_most s)
  where
    at : (p : Bool) → plains s ≤ length s → cond p (1 + plains s) 0 ≤ suc (length s)
    at true h = omega arith
    at false h = omega arith

-- ---- a plain string

-- by its tests
pub plain_text_by : (line : List ℕ) (at : ℕ) {opens closes : Bool} → is_at line at quote ≡ opens → is_at line (skip_plains line (at + 1)) quote ≡ closes
    → plain_text line at ≡ cond opens (cond closes (Some (skip_plains line (at + 1))) None) None
unfolding plain_text
plain_text_by line at o k = λ i. cond (o i) (cond (k i) (Some (skip_plains line (at + 1))) None) None

-- the plain bytes at the front are the front of the text
plains-ahead : (s : List ℕ) → string_from zero s ≡ ahead (take (plains s) s) (plains s) (string_from zero (drop (plains s) s))
plains-ahead [] = ahead_nothing (string_from zero [])
plains-ahead (b ∷ s) = at (is_plain b) refl (plains-ahead s)
  where
    one_more : (n : ℕ) → 1 + n ≡ suc n
    one_more n = omega arith

    at : (p : Bool) → is_plain b ≡ p → string_from zero s ≡ ahead (take (plains s) s) (plains s) (string_from zero (drop (plains s) s))
        → string_from zero (b ∷ s)
        ≡ ahead (take (cond p (1 + plains s) 0) (b ∷ s)) (cond p (1 + plains s) 0) (string_from zero (drop (cond p (1 + plains s) 0) (b ∷ s)))
    at true e h =
        rw (one_more (plains s))
        (string_raw (b ∷ s) 0 (omega arith) 1 (plain_raw (b ∷ s) 0 (omega arith) e)
        ∙ (ap (ahead (b ∷ []) 1) h
        ∙ (ahead-ahead (b ∷ []) 1 (take (plains s) s) (plains s) (string_from zero (drop (plains s) s))
        ∙ ap (λ (k : ℕ). ahead (b ∷ take (plains s) s) k (string_from zero (drop (plains s) s))) (omega arith))))
    at false e h = ahead_nothing (string_from zero (b ∷ s))

-- a plain string: it ends within the line, and is its own decoded text
pub record Plain (line : List ℕ) (at end : ℕ) : Type 0 where
  pub opens : is_at line at quote ≡ true
  pub ahead : at + 1 ≤ end
  pub within : end < length line
  pub string : string_at line at ≡ Some (record { text = take (end - (at + 1)) (drop (at + 1) line); size = end - at })

text_here : (line : List ℕ) (at : ℕ) → skip_plains line (at + 1) < length line → is_at line at quote ≡ true → is_at line (skip_plains line (at + 1)) quote ≡ true
    → string_at line at ≡ Some (record { text = take (plains (drop (at + 1) line)) (drop (at + 1) line); size = plains (drop (at + 1) line) + 1 })
unfolding string_at is_at ahead skip_plains
text_here line at h f g =
    rw f
    (plains-ahead s
    ∙ (ap (λ (l : List ℕ). ahead (take n s) n (string_from zero l)) (drop-drop n (at + 1) line)
    ∙ (ap (ahead (take n s) n) (string_closes line (at + 1 + n) h closes)
    ∙ ap (λ (t : List ℕ). Some (record { text = t; size = n + 1 })) (append-nil (take n s)))))
  where
    s : List ℕ
    s = drop (at + 1) line

    n : ℕ
    n = plains s

    closes : piece_of (drop (at + 1 + n) line) ≡ Some Closes
    closes = piece_by (drop (at + 1 + n) line) (ap (λ (b : ℕ). eqb b quote) (byte_first line (at + 1 + n) h ∙ sym (byte_here line (at + 1 + n) h)) ∙ g) refl refl

trimmed : (line : List ℕ) (at : ℕ) {end : ℕ} → skip_plains line (at + 1) ≡ end
    → ◌≡◌ {A = Option Decoded} (Some (record { text = take (plains (drop (at + 1) line)) (drop (at + 1) line); size = plains (drop (at + 1) line) + 1 }))
    (Some (record { text = take (end - (at + 1)) (drop (at + 1) line); size = end - at }))
unfolding skip_plains
trimmed line at {end} e = λ i. Some (record { text = take (first i) (drop (at + 1) line); size = second i })
  where
    first : plains (drop (at + 1) line) ≡ end - (at + 1)
    first = omega arith

    second : plains (drop (at + 1) line) + 1 ≡ end - at
    second = omega arith

pub plain_string : (line : List ℕ) (at : ℕ) {end : ℕ} → plain_text line at ≡ Some end → Plain line at end
unfolding skip_plains
plain_string line at {end} e = by (is_at line at quote) (is_at line stop quote) refl refl (sym (plain_text_by line at refl refl) ∙ e)
  where
    stop : ℕ
    stop = skip_plains line (at + 1)

    by : (o k : Bool) → is_at line at quote ≡ o → is_at line stop quote ≡ k → cond o (cond k (Some stop) None) None ≡ Some end → Plain line at end
    by true true f g q =
        let here : stop ≡ end = cc in
        let inside = at_within line stop quote (omega arith) g in
        record { opens = f; ahead = omega arith; within = omega arith; string = text_here line at inside f g ∙ trimmed line at here }
    by true false f g q = let z : ◌≡◌ {A = ℕ} 0 1 = cc in absurd (omega arith)
    by false k f g q = let z : ◌≡◌ {A = ℕ} 0 1 = cc in absurd (omega arith)

-- it is read as a text within every depth
pub plain_value : (depth : ℕ) (line : List ℕ) (at : ℕ) {end : ℕ} → Plain line at end
    → value_at depth line at ≡ Some (record { value = text (take (end - (at + 1)) (drop (at + 1) line)); next = end + 1 })
unfolding is_at kind_of between value_as text_at read_as bind
plain_value depth line at {end} p =
    value_by depth line at (ap kind_of (eqb-true (byte_at line at) quote p.opens))
    ∙ (ap (λ o. read_as text (bind o (λ d. Some (record { value = d.text; next = at + 1 + d.size })))) p.string
    ∙ ap (λ (n : ℕ). Some (record { value = text (take (end - (at + 1)) (drop (at + 1) line)); next = n })) behind)
  where
    behind : at + 1 + (end - at) ≡ end + 1
    behind = omega (arith, p.ahead)

-- ---- a copy of one

-- what is pasted at the front
pub pasted_front : (t buffer : List ℕ) → pasted 0 t buffer ≡ written t buffer
unfolding pasted fits_at written
pasted_front t buffer = rw (zero-add (length t))

pub copied_by : {fits : Bool} (t buffer : List ℕ) → fits ≡ fits_at 0 t buffer → cond fits (Ok (length t)) (Err TooLong) ≡ copied_text (length buffer) t
unfolding fits_at
copied_by t buffer e = λ i. cond ((rw (zero-add (length t)) at e) i) (Ok (length t)) (Err TooLong)

-- a plain string
pub copied-plain : (buffer : List ℕ) {line after : List ℕ} {at end : ℕ} {answer : Result ℕ DecodeError} → Plain line at end
    → answer ≡ copied_text (length buffer) (take (end - (at + 1)) (drop (at + 1) line)) → after ≡ written (take (end - (at + 1)) (drop (at + 1) line)) buffer
    → (answer ≡ copied (length buffer) (string_at line at)) × (after ≡ decoded_into buffer (string_at line at))
unfolding copied decoded_into
copied-plain buffer p told wrote = rw p.string (told, wrote)
