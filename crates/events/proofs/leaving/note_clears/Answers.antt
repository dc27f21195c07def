-- `events::leaving::note_clears` meets its contract: the row's number is the note's session. Assumes nothing.
use mathlib.Core.Path.{sym, refl, ◌∙◌}
use borrow.Author.Tests.{ne_eqb}
use Rattle.events.specs.Leaving.{note_row}
use Rattle.events.proofs.LeaveLaws.{note_other, note_own}
use Rattle.events.proofs.leaving.note_clears.Goals as goal

pub returns-then-number_at-session : goal.returns-then-number_at-session
unfolding note_row
returns-then-number_at-session c =
    sym (note_own _ _ _ c.number_at.ensures c.if-number_at-session.true c.numbered_text.ensures c.text_clears.ensures refl)

pub returns-else-number_at-session : goal.returns-else-number_at-session
unfolding note_row
returns-else-number_at-session c =
    ne_eqb _ _ c.if-number_at-session.false ∙ sym (note_other _ c.args.filter.now _ c.number_at.ensures c.if-number_at-session.false)
