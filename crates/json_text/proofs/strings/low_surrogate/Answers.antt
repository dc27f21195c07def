-- Each return has the tests of `low_surrogate` that led there. Assumes nothing.
use native.Mathlib.Omega.{arith}
use mathlib.Core.Path.{sym, ap, ◌∙◌}
use borrow.Author.Rules.{part_to_end}
use Rattle.text.specs.Maybe.{bind}
use Rattle.json_text.specs.Strings.{hex4}
use Rattle.json_text.proofs.Utf8Laws.{within, outside}
use Rattle.json_text.proofs.PieceLaws.{low_by, low_shut, begins_two}
use Rattle.json_text.proofs.strings.low_surrogate.Goals as goal

pub returns-then-not-opens_unicode : goal.returns-then-not-opens_unicode
returns-then-not-opens_unicode c =
    sym (low_shut c.args.bytes.now (sym c.opens_unicode.ensures ∙ c.if-not-opens_unicode.true))

pub slice_bounds-hex4-count : goal.slice_bounds-hex4-count
slice_bounds-hex4-count c =
    begins_two c.args.bytes.now (sym c.opens_unicode.ensures ∙ c.if-not-opens_unicode.false)

pub slice_bounds-hex4-start : goal.slice_bounds-hex4-start
slice_bounds-hex4-start c =
    begins_two c.args.bytes.now (sym c.opens_unicode.ensures ∙ c.if-not-opens_unicode.false)

pub returns-in_err-low : goal.returns-in_err-low
unfolding bind
returns-in_err-low c =
    let s = c.args.bytes.now in
    c.from_residual.ensures
    ∙ sym
    (low_by s (sym c.opens_unicode.ensures ∙ c.if-not-opens_unicode.false)
    (ap hex4 (sym (part_to_end s 2)) ∙ (sym c.hex4.ensures ∙ c.in_err-low.was)))

pub returns-in-56320-to-57343 : goal.returns-in-56320-to-57343
unfolding bind
returns-in-56320-to-57343 c =
    let s = c.args.bytes.now in
    sym
    (low_by s (sym c.opens_unicode.ensures ∙ c.if-not-opens_unicode.false)
    (ap hex4 (sym (part_to_end s 2)) ∙ (sym c.hex4.ensures ∙ c.in_ok-low.was))
    ∙ rw (within 0xdc00 0xdfff c.in_ok-low.low (omega arith) (omega arith)))

pub returns-in_default : goal.returns-in_default
unfolding bind
returns-in_default c =
    let s = c.args.bytes.now in
    sym
    (low_by s (sym c.opens_unicode.ensures ∙ c.if-not-opens_unicode.false)
    (ap hex4 (sym (part_to_end s 2)) ∙ (sym c.hex4.ensures ∙ c.in_ok-low.was))
    ∙ rw (outside 0xdc00 0xdfff c.in_ok-low.low (λ h k. omega arith)))

pub returns-in_default-2 : goal.returns-in_default-2
unfolding bind
returns-in_default-2 c =
    let s = c.args.bytes.now in
    sym
    (low_by s (sym c.opens_unicode.ensures ∙ c.if-not-opens_unicode.false)
    (ap hex4 (sym (part_to_end s 2)) ∙ (sym c.hex4.ensures ∙ c.in_ok-low.was))
    ∙ rw (outside 0xdc00 0xdfff c.in_ok-low.low (λ h k. omega arith)))
