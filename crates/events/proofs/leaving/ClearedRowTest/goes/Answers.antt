-- The test of `events::leaving::Cleared` meets its contract: a row of another owner stays, and of the client's the notes decide. Assumes nothing.
use mathlib.Core.Path.{◌∙◌}
use Rattle.events.proofs.LeaveLaws.{row-owned, row_other}
use Rattle.events.proofs.leaving.ClearedRowTest.goes.Goals as goal

pub returns-then-same : goal.returns-then-same
returns-then-same c =
    row-owned _ _ _ _ c.filter_owner.ensures c.same.ensures c.if-same.true c.filter_text.ensures c.any_clears.ensures

pub returns-else-same : goal.returns-else-same
returns-else-same c =
    c.if-same.false ∙ row_other _ _ _ _ c.filter_owner.ensures c.same.ensures c.if-same.false
