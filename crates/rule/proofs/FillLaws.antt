-- Laws of filling: what the two passes of `fill_text` come to. Assumes nothing.
use Prim.Native.Nat.{ℕ, ◌+◌, ◌*◌, ◌≤◌, ◌<◌}
use native.Mathlib.Nat.{mul-le-mul_left}
use mathlib.Core.Path.{◌≡◌, refl, sym, ap, subst, ◌∙◌}
use mathlib.Core.Bool.{Bool, cond, true, false, and-false, true≢false}
use mathlib.Core.List.{List, []}
use denote.Ref.{Bor}
use Rattle.std.specs.Option.{option_copied}
use Rattle.std.specs.Prelude.{Option, None, Some, Result, unwrap_or}
use Rattle.std.specs.Result.{result_ok}
use native.Mathlib.Omega.{arith}
use borrow.Author.Tests.{le-leb, lt-leb}
use lib.Dec.{leb}
use lib.ListN.{length, take}
use Rattle.text.specs.Ascii.{ascii}
use Rattle.text.specs.Text.{replace, fitted, written}
use Rattle.text.proofs.Laws.{times, times_fit, replace-length, length_told, too_long_told, written-take}
use Rattle.json_text.specs.Strings.{Decoded}
use Rattle.json_text.specs.Access.{copied}
use Rattle.json_text.specs.declared.DecodeError.{DecodeError}
use Rattle.rule.proofs.DecodeLaws.{written-length, err_told}
use Rattle.rule.specs.Fill.{or_nothing, fill}
use Rattle.rule.specs.Places.{fillable, filling, filled_into, filling_at, filled_at, passes, through, through_into}

-- a template of 256 bytes has 128 places for a client id of 64
pub between_fits : (template id : List ℕ) → length template ≤ 256 → length id ≤ 64 → length (replace (ascii "%c") id template) ≤ 8192
between_fits template id h k =
    let lengths : length (replace (ascii "%c") id template) + times (ascii "%c") template * 2 ≡ length template + times (ascii "%c") template * length id = replace-length (ascii "%c") id template in
    let places : times (ascii "%c") template * 2 ≤ length template = times_fit (ascii "%c") template in
    let grown : times (ascii "%c") template * length id ≤ times (ascii "%c") template * 64 = mul-le-mul_left (times (ascii "%c") template) k in
    omega arith

-- the first pass, into a buffer where it has room: the front is the text between
module _ (template id before : List ℕ) {after : List ℕ} {answer : Option ℕ}
    (told : answer ≡ fitted (replace (ascii "%c") id template) (length before)) (wrote : after ≡ written (replace (ascii "%c") id template) before) where
  pub first_room : {n : ℕ} → answer ≡ Some n → n ≤ length after
  first_room {n} e =
      let fits = length_told {n = n} (replace (ascii "%c") id template) (length before) told e in
      rw wrote (omega (arith, written-length (replace (ascii "%c") id template) before))

  pub first_front : {n : ℕ} → answer ≡ Some n → take n after ≡ replace (ascii "%c") id template
  first_front {n} e =
      let fits = length_told {n = n} (replace (ascii "%c") id template) (length before) told e in
      rw (fits.0, wrote) (written-take (replace (ascii "%c") id template) before (omega arith))

  pub first_passes : {n most : ℕ} → length before ≡ most → answer ≡ Some n → passes most template id ≡ true
  unfolding passes
  first_passes {n} {most} l e =
      let fits = length_told {n = n} (replace (ascii "%c") id template) (length before) told e in
      le-leb (length (replace (ascii "%c") id template)) most (omega arith)

  pub first_over : {most : ℕ} → length before ≡ most → answer ≡ None → passes most template id ≡ false
  unfolding passes
  first_over {most} l e =
      let far = too_long_told (replace (ascii "%c") id template) (length before) told e in
      lt-leb (length (replace (ascii "%c") id template)) most (omega arith)

pub fillable_fits : (template id : List ℕ) → length template ≤ 256 → length id ≤ 64 → fillable template id ≡ true
unfolding fillable
fillable_fits template id h k = rw (le-leb (length template) 256 h, le-leb (length id) 64 k)

pub template_over : (template id : List ℕ) → 256 < length template → fillable template id ≡ false
unfolding fillable
template_over template id h = rw (lt-leb (length template) 256 h)

pub id_over : (template id : List ℕ) → 64 < length id → fillable template id ≡ false
unfolding fillable
id_over template id h = rw (lt-leb (length id) 64 h) (and-false (leb (length template) 256))

-- the answer of `fill_text`, and the buffer afterwards
abbrev pub Filled : List ℕ → List ℕ → List ℕ → List ℕ → Option (List ℕ) → Option ℕ → Type 0
Filled buffer after template id name answer =
    (answer ≡ filling (length buffer) template id name) × (after ≡ filled_into buffer template id name)

pub not_filled : (buffer template id : List ℕ) (name : Option (List ℕ)) → fillable template id ≡ false → Filled buffer buffer template id name None
unfolding filling filled_into
not_filled buffer template id name e = (rw e, rw e)

-- the name that is filled in
pub names_are : (name : Option (Bor (List ℕ))) (none : Bor (List ℕ)) {names : Bor (List ℕ)} → none.now ≡ [] → names ≡ unwrap_or name none → names.now ≡ or_nothing (option_copied name)
unfolding or_nothing
names_are None none h e = ap (λ (b : Bor (List ℕ)). b.now) e ∙ h
names_are (Some b) none h e = ap (λ (b : Bor (List ℕ)). b.now) e

-- the two passes, through a text between them
abbrev pub Through : ℕ → List ℕ → List ℕ → List ℕ → List ℕ → Option (List ℕ) → Option (Option ℕ) → Type 0
Through most buffer after template id name answer =
    (answer ≡ through most (length buffer) template id name) × (after ≡ through_into most buffer template id name)

pub passed_through : (most : ℕ) (buffer template id : List ℕ) (name : Option (List ℕ)) {between names after : List ℕ} {answer : Option ℕ}
    → passes most template id ≡ true → between ≡ replace (ascii "%c") id template → names ≡ or_nothing name
    → answer ≡ fitted (replace (ascii "%u") names between) (length buffer) → after ≡ written (replace (ascii "%u") names between) buffer
    → Through most buffer after template id name (Some answer)
unfolding through through_into fill
passed_through most buffer template id name p b n told wrote =
    let t : ◌≡◌ {A = List ℕ} _ (replace (ascii "%u") (or_nothing name) (replace (ascii "%c") id template)) = λ i. replace (ascii "%u") (n i) (b i) in
    (rw p (ap Some (told ∙ ap (λ (s : List ℕ). fitted s (length buffer)) t)), rw p (wrote ∙ ap (λ (s : List ℕ). written s buffer) t))

pub not_through : (most : ℕ) (buffer template id : List ℕ) (name : Option (List ℕ)) → passes most template id ≡ false → Through most buffer buffer template id name None
unfolding through through_into
not_through most buffer template id name p = (rw p refl, rw p refl)

-- what the first try tells: the answer, or that the buffer is as it was
pub through_filled : (most : ℕ) (buffer template id : List ℕ) (name : Option (List ℕ)) {after : List ℕ} {answer : Option (Option ℕ)} {filled : Option ℕ}
    → length template ≤ 256 → length id ≤ 64 → Through most buffer after template id name answer → answer ≡ Some filled → Filled buffer after template id name filled
unfolding through through_into filling filled_into fitted
through_filled most buffer template id name {after} {answer} {filled} h k t e = by (passes most template id) t
  where
    by : (b : Bool)
        → (answer ≡ cond b (Some (fitted (fill template id name) (length buffer))) None) × (after ≡ cond b (written (fill template id name) buffer) buffer)
        → Filled buffer after template id name filled
    by true u = let is : filled ≡ fitted (fill template id name) (length buffer) = cc in (rw (fillable_fits template id h k) is, rw (fillable_fits template id h k) u.1)
    by false u = let z : ◌≡◌ {A = ℕ} 0 1 = cc in absurd (omega arith)

pub through_none : (most : ℕ) (buffer template id : List ℕ) (name : Option (List ℕ)) {after : List ℕ} {answer : Option (Option ℕ)}
    → Through most buffer after template id name answer → answer ≡ None → (passes most template id ≡ false) × (after ≡ buffer)
unfolding through through_into
through_none most buffer template id name {after} {answer} t e = by (passes most template id) refl t
  where
    by : (b : Bool) → passes most template id ≡ b
        → (answer ≡ cond b (Some (fitted (fill template id name) (length buffer))) None) × (after ≡ cond b (written (fill template id name) buffer) buffer)
        → (passes most template id ≡ false) × (after ≡ buffer)
    by true p u = let z : ◌≡◌ {A = ℕ} 0 1 = cc in absurd (omega arith)
    by false p u = (p, u.1)

-- 8,192 bytes are room
pub passes_all : (template id : List ℕ) → length template ≤ 256 → length id ≤ 64 → passes 8192 template id ≡ true
unfolding passes
passes_all template id h k = le-leb _ 8192 (between_fits template id h k)

-- the second try is the filling, and doesn't fail
pub second_filled : (buffer template id : List ℕ) (name : Option (List ℕ)) {first second : List ℕ} {answer again : Option (Option ℕ)} {filled : Option ℕ}
    → length template ≤ 256 → length id ≤ 64 → Through 256 buffer first template id name answer → answer ≡ None
    → Through 8192 first second template id name again → again ≡ Some filled → Filled buffer second template id name filled
second_filled buffer template id name {first} {second} {answer} {again} h k t e u q =
    let same = (through_none 256 buffer template id name t e).1 in
    through_filled 8192 buffer template id name h k (subst (λ (b : List ℕ). Through 8192 b second template id name again) same u) q

pub second_fits : (buffer template id : List ℕ) (name : Option (List ℕ)) {after : List ℕ} {answer : Option (Option ℕ)}
    → length template ≤ 256 → length id ≤ 64 → Through 8192 buffer after template id name answer → answer ≡ None → ⊥
second_fits buffer template id name h k t e = true≢false (sym (passes_all template id h k) ∙ (through_none 8192 buffer template id name t e).0)

-- at a place of the line
pub filled_here : (buffer after id : List ℕ) (name : Option (List ℕ)) (o : Option Decoded) {d : Decoded} {t : List ℕ} {answer : Option ℕ}
    → o ≡ Some d → t ≡ d.text → Filled buffer after t id name answer → (answer ≡ filling_at (length buffer) o id name) × (after ≡ filled_at buffer o id name)
unfolding filling_at filled_at
filled_here buffer after id name o e f g = rw (e, sym f) g

pub filled_unfit : (buffer id : List ℕ) (name : Option (List ℕ)) (o : Option Decoded) {answer : Result ℕ DecodeError} → answer ≡ copied 256 o → result_ok answer ≡ None
    → (None ≡ filling_at (length buffer) o id name) × (buffer ≡ filled_at buffer o id name)
unfolding filling_at filled_at
filled_unfit buffer id name o e q = by o refl
  where
    by : (p : Option Decoded) → o ≡ p → (None ≡ filling_at (length buffer) p id name) × (buffer ≡ filled_at buffer p id name)
    by None f = (refl, refl)
    by (Some d) f = not_filled buffer d.text id name (template_over d.text id ((err_told 256 o e q).far d f))
