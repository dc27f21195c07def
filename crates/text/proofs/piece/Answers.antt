-- `text::piece` meets its contract: an occurrence begins the text, or the bytes before the first stay. Assumes nothing.
use mathlib.Core.Path.{sym, ◌∙◌}
use borrow.Author.Rules.{part_to_end}
use Rattle.text.proofs.Laws.{first_here, replace_occurrence}
use Rattle.text.proofs.piece.Goals as goal

pub returns-then-kept-eq0-clause-step : goal.returns-then-kept-eq0-clause-step
returns-then-kept-eq0-clause-step c =
    let here = first_here _ _ _ c.place.ensures (sym c.unwrap_or-kept.ensures ∙ c.if-kept-eq0.true) c.requires in
    rw part_to_end (replace_occurrence _ _ _ here.2)
