-- Texts of one length are compared byte by byte, and others are no such word. Assumes nothing.
use Prim.Native.Nat.{ℕ}
use mathlib.Core.Path.{sym, ◌∙◌}
use borrow.Author.Rules.{rules}
use borrow.Author.Tests.{tests, ne_eqb}
use lib.Dec.{eqb}
use Rattle.std.proofs.lemmas.Iterator.{YieldsList-from_slice, YieldsList-from_zip}
use Rattle.std.proofs.lemmas.Iterator.Search.{all_from_yields_List}
use Rattle.rule.specs.Rule.{lower}
use Rattle.rule.proofs.WordLaws.{word_lengths, word_bytes}
use Rattle.rule.proofs.words.is_word.Goals as goal

pub returns-then-text-word : goal.returns-then-text-word
returns-then-text-word c =
    let pairs = YieldsList-from_zip {s = c.zip.result} (YieldsList-from_slice c.args.text.now (search rules)) (YieldsList-from_slice c.args.word.now (search rules)) in
    all_from_yields_List (λ (p : ℕ × ℕ). eqb (lower p.0) p.1) c.all.new.self _ c.all.result c.all.ensures.ran pairs (λ x b q k. search (rules, tests))
    ∙ word_bytes c.args.word.now c.args.text.now c.if-text-word.true

pub returns-else-text-word : goal.returns-else-text-word
returns-else-text-word c =
    ne_eqb _ _ c.if-text-word.false ∙ sym (word_lengths c.args.word.now c.args.text.now c.if-text-word.false)
