-- What a `?` passes on, behind `ok_or` too. Assumes nothing.
use Prim.Native.Nat.{ℕ}
use native.Mathlib.Omega.{arith}
use mathlib.Core.Path.{◌≡◌, refl, ap, ◌∙◌}
use Rattle.std.specs.Prelude.{Option, None, Some, Result, Ok, Err}
use Rattle.std.specs.Option.{ok_or}
use Rattle.std.specs.Result.{IsErrAnd}
use Rattle.std.proofs.lemmas.Result.{err_from_is_err_and}

pub passed_on : {T E : Type 0} {e : E} (r : Result T E) → IsErrAnd r (λ x. x ≡ e) → r ≡ Err e
passed_on r h = let p = err_from_is_err_and r h in p.1 ∙ ap Err p.2

-- there was no value, and the answer is its refusal
pub missing : {A B E : Type 0} (o : Option A) {e f : E} {r : Result A E} (s : Result B E) → r ≡ ok_or o f → r ≡ Err e → IsErrAnd s (λ x. x ≡ e)
    → (o ≡ None) × (s ≡ Err f)
missing None {e} {f} s h k p = let same : e ≡ f = cc in (refl, passed_on s p ∙ ap Err same)
missing (Some x) {e} {f} {r} s h k p = let z : ◌≡◌ {A = ℕ} 0 1 = cc in absurd (omega arith)

-- there was one
pub there : {A E : Type 0} (o : Option A) (f : E) {x : A} {r : Result A E} → r ≡ ok_or o f → r ≡ Ok x → o ≡ Some x
there None f h k = let z : ◌≡◌ {A = ℕ} 0 1 = cc in absurd (omega arith)
there (Some y) f {x} h k = cc
