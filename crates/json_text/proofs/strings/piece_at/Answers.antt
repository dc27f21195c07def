-- Each return has the tests of `piece_of` that led there. Assumes nothing.
use native.Mathlib.Omega.{arith}
use mathlib.Core.Path.{refl, sym, ap, ◌∙◌}
use Prim.Native.Nat.{ℕ, ◌+◌}
use lib.Dec.{eqb, ltb}
use lib.ListN.{drop, drop_of_length-le}
use lib.Seq.{drop-drop}
use borrow.Author.Rules.{part_to_end}
use Rattle.json_text.proofs.Utf8Laws.{byte_first, sequence_ascii}
use Rattle.json_text.proofs.PieceLaws.{piece_by, piece_nothing, raw_by}
use Rattle.json_text.specs.Strings.{quote, backslash, escape, piece_of}
use borrow.Author.Tests.{eq-eqb, ne_eqb, lt-ltb, le-ltb}
use Rattle.json_text.proofs.strings.piece_at.Goals as goal

pub returns-then-line-at : goal.returns-then-line-at
returns-then-line-at c =
    let s = drop c.args.at c.args.line.now in
    sym (ap piece_of (drop_of_length-le c.args.line.now {i = c.args.at} c.if-line-at.true) ∙ piece_nothing)

pub returns-in-34 : goal.returns-in-34
returns-in-34 c =
    let s = drop c.args.at c.args.line.now in
    sym (piece_by s (ap (λ (b : ℕ). eqb b quote) (byte_first c.args.line.now c.args.at (omega arith)) ∙ eq-eqb _ _ c.in-34.is) refl refl)

pub returns-in-92 : goal.returns-in-92
returns-in-92 c =
    let s = drop c.args.at c.args.line.now in
    c.escape.ensures ∙ (ap escape (part_to_end c.args.line.now (c.args.at + 1)) ∙ (sym (ap escape (drop-drop 1 c.args.at c.args.line.now)) ∙ sym (piece_by s (ap (λ (b : ℕ). eqb b quote) (byte_first c.args.line.now c.args.at (omega arith) ∙ c.in-92.is)) (ap (λ (b : ℕ). eqb b backslash) (byte_first c.args.line.now c.args.at (omega arith)) ∙ eq-eqb _ _ c.in-92.is) refl)))

pub returns-in-0-to-31 : goal.returns-in-0-to-31
returns-in-0-to-31 c =
    let s = drop c.args.at c.args.line.now in
    sym (piece_by s (ap (λ (b : ℕ). eqb b quote) (byte_first c.args.line.now c.args.at (omega arith)) ∙ ne_eqb _ _ (λ e. omega arith)) (ap (λ (b : ℕ). eqb b backslash) (byte_first c.args.line.now c.args.at (omega arith)) ∙ ne_eqb _ _ (λ e. omega arith)) (ap (λ (b : ℕ). ltb b 0x20) (byte_first c.args.line.now c.args.at (omega arith)) ∙ lt-ltb _ _ (omega arith)))

pub returns-in-32-to-127 : goal.returns-in-32-to-127
returns-in-32-to-127 c =
    let s = drop c.args.at c.args.line.now in
    sym (piece_by s (ap (λ (b : ℕ). eqb b quote) (byte_first c.args.line.now c.args.at (omega arith)) ∙ ne_eqb _ _ (λ e. omega arith)) (ap (λ (b : ℕ). eqb b backslash) (byte_first c.args.line.now c.args.at (omega arith)) ∙ ne_eqb _ _ (λ e. omega arith)) (ap (λ (b : ℕ). ltb b 0x20) (byte_first c.args.line.now c.args.at (omega arith)) ∙ le-ltb _ _ (omega arith)) ∙ raw_by (sequence_ascii s (rw (byte_first c.args.line.now c.args.at (omega arith)) (omega arith))))

pub returns-in_ok-n-in_default : goal.returns-in_ok-n-in_default
returns-in_ok-n-in_default c =
    let s = drop c.args.at c.args.line.now in
    sym (piece_by s (ap (λ (b : ℕ). eqb b quote) (byte_first c.args.line.now c.args.at (omega arith)) ∙ ne_eqb _ _ (λ e. omega arith)) (ap (λ (b : ℕ). eqb b backslash) (byte_first c.args.line.now c.args.at (omega arith)) ∙ ne_eqb _ _ (λ e. omega arith)) (ap (λ (b : ℕ). ltb b 0x20) (byte_first c.args.line.now c.args.at (omega arith)) ∙ le-ltb _ _ (omega arith)) ∙ raw_by (sym c.sequence.ensures ∙ c.in_ok-n-in_default.was))

pub returns-in_err-n-in_default : goal.returns-in_err-n-in_default
returns-in_err-n-in_default c =
    let s = drop c.args.at c.args.line.now in
    c.from_residual.ensures ∙ sym (piece_by s (ap (λ (b : ℕ). eqb b quote) (byte_first c.args.line.now c.args.at (omega arith)) ∙ ne_eqb _ _ (λ e. omega arith)) (ap (λ (b : ℕ). eqb b backslash) (byte_first c.args.line.now c.args.at (omega arith)) ∙ ne_eqb _ _ (λ e. omega arith)) (ap (λ (b : ℕ). ltb b 0x20) (byte_first c.args.line.now c.args.at (omega arith)) ∙ le-ltb _ _ (omega arith)) ∙ raw_by (sym c.sequence.ensures ∙ c.in_err-n-in_default.was))
