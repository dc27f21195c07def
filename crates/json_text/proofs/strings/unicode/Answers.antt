-- Each return has the tests of `unicode` that led there. Assumes nothing.
use native.Mathlib.Omega.{arith}
use mathlib.Core.Path.{refl, sym, ap, ◌∙◌}
use borrow.Author.Rules.{part_to_end}
use mathlib.Core.Logic.{⊎_elim}
use Rattle.std.specs.Prelude.{ℕ, Some}
use Rattle.text.specs.Maybe.{bind}
use Rattle.json_text.specs.declared.Piece.TheVariants.{Escaped}
use Rattle.json_text.specs.Strings.{low_surrogate}
use Rattle.json_text.proofs.Utf8Laws.{within, outside}
use Rattle.json_text.proofs.PieceLaws.{hex4_told, low_told, unicode_none, unicode_by}
use Rattle.json_text.proofs.strings.unicode.Goals as goal

pub returns-in_err-u : goal.returns-in_err-u
returns-in_err-u c =
    c.from_residual.ensures ∙ sym (unicode_none c.args.bytes.now (sym c.hex4.ensures ∙ c.in_err-u.was))

pub slice_bounds-low_surrogate-count : goal.slice_bounds-low_surrogate-count
slice_bounds-low_surrogate-count c =
    (hex4_told c.args.bytes.now (sym c.hex4.ensures ∙ c.in_ok-u.was)).there

pub slice_bounds-low_surrogate-start : goal.slice_bounds-low_surrogate-start
slice_bounds-low_surrogate-start c =
    (hex4_told c.args.bytes.now (sym c.hex4.ensures ∙ c.in_ok-u.was)).there

pub overflow_sub-low : goal.overflow_sub-low
overflow_sub-low c =
    omega (arith, (low_told _ (sym c.low_surrogate.ensures ∙ c.in_ok-low-in-55296-to-56319.was)).least)

pub overflow_add-u-in-55296-to-56319 : goal.overflow_add-u-in-55296-to-56319
overflow_add-u-in-55296-to-56319 c =
    omega (arith, (low_told _ (sym c.low_surrogate.ensures ∙ c.in_ok-low-in-55296-to-56319.was)).most)

pub returns-in_ok-c-in-55296-to-56319 : goal.returns-in_ok-c-in-55296-to-56319
unfolding bind
returns-in_ok-c-in-55296-to-56319 c =
    let s = c.args.bytes.now in
    ap (λ (k : ℕ). Some (Escaped k 12)) c.in_ok-c-in-55296-to-56319.ensures.value.1
    ∙ sym
    (unicode_by s (sym c.hex4.ensures ∙ c.in_ok-u.was) (within 0xd800 0xdbff c.in_ok-u.u (omega arith) (omega arith))
    (ap low_surrogate (sym (part_to_end s 4)) ∙ (sym c.low_surrogate.ensures ∙ c.in_ok-low-in-55296-to-56319.was)) refl)

-- a pair is always a character
pub returns-in_err-c-in-55296-to-56319 : goal.returns-in_err-c-in-55296-to-56319
returns-in_err-c-in-55296-to-56319 c =
    let low = low_told _ (sym c.low_surrogate.ensures ∙ c.in_ok-low-in-55296-to-56319.was) in
    absurd (⊎_elim (λ h. omega (arith, low.least, low.most)) (λ h. omega (arith, low.least, low.most)) c.in_err-c-in-55296-to-56319.ensures.cases)

pub returns-in_err-low-in-55296-to-56319 : goal.returns-in_err-low-in-55296-to-56319
unfolding bind
returns-in_err-low-in-55296-to-56319 c =
    let s = c.args.bytes.now in
    c.from_residual-in_err-low-in-55296-to-56319.ensures
    ∙ sym
    (unicode_by s (sym c.hex4.ensures ∙ c.in_ok-u.was) (within 0xd800 0xdbff c.in_ok-u.u (omega arith) (omega arith))
    (ap low_surrogate (sym (part_to_end s 4)) ∙ (sym c.low_surrogate.ensures ∙ c.in_err-low-in-55296-to-56319.was)) refl)

pub returns-in_ok-c-in_default : goal.returns-in_ok-c-in_default
returns-in_ok-c-in_default c =
    let u = c.in_ok-u.u in
    ap (λ (k : ℕ). Some (Escaped k 6)) c.in_ok-c-in_default.ensures.value.1
    ∙ sym
    (unicode_by c.args.bytes.now (sym c.hex4.ensures ∙ c.in_ok-u.was) (outside 0xd800 0xdbff u (λ h k. omega arith)) refl
    (outside 0xdc00 0xdfff u (λ h k. ⊎_elim (λ l. omega arith) (λ l. omega arith) c.in_ok-c-in_default.ensures.cases)))

pub returns-in_err-c-in_default : goal.returns-in_err-c-in_default
returns-in_err-c-in_default c =
    let u = c.in_ok-u.u in
    let told = hex4_told c.args.bytes.now (sym c.hex4.ensures ∙ c.in_ok-u.was) in
    c.from_residual-in_err-c-in_default.ensures
    ∙ sym
    (unicode_by c.args.bytes.now (sym c.hex4.ensures ∙ c.in_ok-u.was) (outside 0xd800 0xdbff u (λ h k. omega arith)) refl
    (⊎_elim (λ l. within 0xdc00 0xdfff u (omega arith) (omega arith)) (λ l. absurd (omega (arith, told.most))) c.in_err-c-in_default.ensures.cases))
