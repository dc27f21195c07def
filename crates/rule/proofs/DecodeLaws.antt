-- What `plain_text` and `decode` of json_text tell their callers: the string, and the front of the buffer. Assumes nothing.
use Prim.Native.Nat.{ℕ, ◌≤◌, ◌<◌}
use mathlib.Core.Path.{◌≡◌, refl, sym, ap, subst, ◌∙◌}
use mathlib.Core.Bool.{Bool, true, false, cond}
use mathlib.Core.List.{List}
use Rattle.std.specs.Result.{result_ok}
use Rattle.std.specs.Prelude.{Option, None, Some, Result, Ok, Err}
use native.Mathlib.Omega.{arith}
use borrow.Author.Tests.{leb-true, leb-false}
use lib.Dec.{leb}
use lib.ListN.{length, take, drop, length-append, length-drop}
use Rattle.text.specs.Text.{written}
use Rattle.text.proofs.Laws.{written-take, written_fits, written_too_long}
use Rattle.json_text.specs.Strings.{Decoded, string_at}
use Rattle.json_text.specs.Plain.{plain_text}
use Rattle.json_text.proofs.PlainLaws.{plain_string}
use Rattle.json_text.specs.Access.{copied, decoded_into}
use Rattle.json_text.specs.declared.DecodeError.TheVariants.{NoText, TooLong}
use Rattle.json_text.specs.declared.DecodeError.{DecodeError}
use Rattle.rule.specs.Places.{word_at}
use Rattle.rule.proofs.WordLaws.{word_nowhere, word_here, word_long}

-- the quotes of a plain string
pub plain_ahead : (line : List ℕ) (at end : ℕ) → plain_text line at ≡ Some end → at < end
plain_ahead line at end e = let p = plain_string line at e in omega arith

pub plain_within : (line : List ℕ) (at end : ℕ) → plain_text line at ≡ Some end → end < length line
plain_within line at end e = let p = plain_string line at e in omega arith

-- where they stand, for `using`
pub ruleset plain_bounds = (plain_ahead, plain_within)

-- a buffer keeps its length
pub written-length : (result buffer : List ℕ) → length (written result buffer) ≡ length buffer
written-length result buffer = at (leb (length result) (length buffer)) refl
  where
    at : (b : Bool) → leb (length result) (length buffer) ≡ b → length (written result buffer) ≡ length buffer
    at true e =
        let h = leb-true (length result) (length buffer) e in
        rw (written_fits result buffer h, length-append result (drop (length result) buffer)) (omega (arith, length-drop (length result) buffer))
    at false e = rw (written_too_long result buffer (leb-false (length result) (length buffer) e))

-- the string is there, and the front of the buffer is its text
pub record Copies (o : Option Decoded) (before after : List ℕ) (n : ℕ) : Type 0 where
  pub string : Decoded
  pub is : o ≡ Some string
  pub long : n ≡ length string.text
  pub fits : n ≤ length before
  pub room : n ≤ length after
  pub front : take n after ≡ string.text

pub decoded_length :
    {answer : Result ℕ DecodeError} {after : List ℕ} {n : ℕ} (before : List ℕ) (o : Option Decoded)
    → answer ≡ copied (length before) o → after ≡ decoded_into before o → answer ≡ Ok n → Copies o before after n
unfolding copied decoded_into
decoded_length {answer} {after} {n} before None e f q = let z : ◌≡◌ {A = ℕ} 0 1 = cc in absurd (omega arith)
decoded_length {answer} {after} {n} before (Some d) e f q = at (leb (length d.text) (length before)) refl e
  where
    at : (b : Bool) → leb (length d.text) (length before) ≡ b → answer ≡ cond b (Ok (length d.text)) (Err TooLong) → Copies (Some d) before after n
    at true h g =
        let room = leb-true (length d.text) (length before) h in
        let long : n ≡ length d.text = cc in
        record { string = d; is = refl; long = long; fits = omega arith; room = rw f (omega (arith, written-length d.text before)); front = rw (long, f) (written-take d.text before room) }
    at false h g = let z : ◌≡◌ {A = ℕ} 0 1 = cc in absurd (omega arith)

-- the string is there, and longer than the buffer
pub record Over (o : Option Decoded) (room : ℕ) : Type 0 where
  pub string : Decoded
  pub is : o ≡ Some string
  pub far : room < length string.text

pub decoded_over : {answer : Result ℕ DecodeError} (room : ℕ) (o : Option Decoded) → answer ≡ copied room o → answer ≡ Err TooLong → Over o room
unfolding copied
decoded_over {answer} room None e q = let z : ◌≡◌ {A = ℕ} 0 1 = cc in absurd (omega arith)
decoded_over {answer} room (Some d) e q = at (leb (length d.text) room) refl e
  where
    at : (b : Bool) → leb (length d.text) room ≡ b → answer ≡ cond b (Ok (length d.text)) (Err TooLong) → Over (Some d) room
    at true h g = let z : ◌≡◌ {A = ℕ} 0 1 = cc in absurd (omega arith)
    at false h g = record { string = d; is = refl; far = leb-false (length d.text) room h }

pub decoded_none : {answer : Result ℕ DecodeError} (room : ℕ) (o : Option Decoded) → answer ≡ copied room o → answer ≡ Err NoText → o ≡ None
unfolding copied
decoded_none {answer} room None e q = refl
decoded_none {answer} room (Some d) e q = at (leb (length d.text) room) refl e
  where
    at : (b : Bool) → leb (length d.text) room ≡ b → answer ≡ cond b (Ok (length d.text)) (Err TooLong) → Some d ≡ None
    at true h g = let z : ◌≡◌ {A = ℕ} 0 1 = cc in absurd (omega arith)
    at false h g = let z : ◌≡◌ {A = ℕ} 0 1 = cc in absurd (omega arith)

-- the same of `ok`
pub ok_told : {answer : Result ℕ DecodeError} {n : ℕ} → result_ok answer ≡ Some n → answer ≡ Ok n
ok_told {answer = Ok k} e = let same : ◌≡◌ {A = ℕ} k _ = cc in ap Ok same
ok_told {answer = Err cause} e = let z : ◌≡◌ {A = ℕ} 0 1 = cc in absurd (omega arith)

pub record Unfit (o : Option Decoded) (room : ℕ) : Type 0 where
  pub far : (d : Decoded) → o ≡ Some d → room < length d.text

pub err_told : {answer : Result ℕ DecodeError} (room : ℕ) (o : Option Decoded) → answer ≡ copied room o → result_ok answer ≡ None → Unfit o room
unfolding copied
err_told {answer} room None e q = record { far = λ d f. let z : ◌≡◌ {A = ℕ} 0 1 = cc in absurd (omega arith) }
err_told {answer} room (Some s) e q = record { far = by (leb (length s.text) room) refl (ap result_ok (sym e) ∙ q) }
  where
    by : (b : Bool) → leb (length s.text) room ≡ b → result_ok (cond b (Ok (length s.text)) (Err TooLong)) ≡ None → (d : Decoded) → Some s ≡ Some d → room < length d.text
    by true h k d f = let z : ◌≡◌ {A = ℕ} 0 1 = cc in absurd (omega arith)
    by false h k d f = let same : s ≡ d = cc in subst (λ (x : Decoded). room < length x.text) same (leb-false (length s.text) room h)

-- a word is no text that doesn't fit nine bytes
pub word_unfit : (line : List ℕ) (at : ℕ) {answer : Result ℕ DecodeError} → answer ≡ copied 9 (string_at line at) → result_ok answer ≡ None → word_at line at ≡ None
word_unfit line at {answer} e q = by (string_at line at) refl
  where
    u : Unfit (string_at line at) 9
    u = err_told 9 (string_at line at) e q

    by : (o : Option Decoded) → string_at line at ≡ o → word_at line at ≡ None
    by None f = word_nowhere line at f
    by (Some d) f = word_here line at f ∙ word_long d.text (u.far d f)
