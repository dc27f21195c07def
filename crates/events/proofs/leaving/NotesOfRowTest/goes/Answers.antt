-- The test of `events::leaving::NotesOf` meets its contract: the row's number is its note's session. Assumes nothing.
use mathlib.Core.Path.{ap}
use Rattle.store.specs.Layout.{numbered_codec}
use Rattle.events.specs.Event.{of_session}
use Rattle.events.specs.Leaving.{note_row}
use Rattle.std.proofs.Common.{nat_eq}
use Rattle.events.proofs.leaving.NotesOfRowTest.goes.Goals as goal

pub returns : goal.returns
unfolding of_session note_row numbered_codec
returns c = ap (λ n. nat_eq n c.args.self.now.session) c.number_at.ensures
