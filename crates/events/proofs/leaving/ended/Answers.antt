-- `events::leaving::ended` meets its contract. A store that has a shape is the layout of a view; the notes of the session go,
-- and what is left is laid out again. Assumes nothing.
use native.Mathlib.Omega.{arith}
use mathlib.Core.Path.{ap, ◌∙◌}
use Rattle.std.specs.Result.{result_ok}
use Rattle.text.proofs.TryLaws.{missing}
use Rattle.store.proofs.PartLaws.{Shaped, shaped_told, bounds_of}
use Rattle.events.specs.Event.{says}
use Rattle.events.proofs.LeaveLaws.{stay_few, ended_out, ended_unread, ended_done}
use Rattle.events.proofs.leaving.ended.Goals.{In_ok-shape}
use Rattle.events.proofs.leaving.ended.Goals as goal

-- the store is the layout of a view of this shape
shaped : (c : In_ok-shape) → Shaped c.args.store.now c.in_ok-shape.shape
shaped c = shaped_told _ c.shape.ensures (c.ok_or.ensures.ok_part ∙ ap result_ok c.in_ok-shape.was)

pub returns-then-session-ge-SESSIONS : goal.returns-then-session-ge-SESSIONS
returns-then-session-ge-SESSIONS c =
    let whole = ended_out _ _ c.if-session-ge-SESSIONS.true in record { result_value = whole.0; store_after = whole.1 }

pub returns-in_err-shape : goal.returns-in_err-shape
returns-in_err-shape c =
    let none = missing c.shape.result c.from_residual.result c.ok_or.ensures.value c.in_err-shape.was c.from_residual.ensures.1 in
    let whole = ended_unread _ _ c.if-session-ge-SESSIONS.false c.shape.ensures none.0 in record { result_value = ap says none.1 ∙ whole.0; store_after = whole.1 }

pub slice_bounds-remove-end : goal.slice_bounds-remove-end
slice_bounds-remove-end c =
    let sizes = bounds_of (shaped (goal.at.slice_bounds-remove-end c).In_ok-shape) in
    omega (arith, c.length-end.ensures)

pub overflow_cast-stay : goal.overflow_cast-stay
overflow_cast-stay c =
    let sizes = bounds_of (shaped (goal.at.overflow_cast-stay c).In_ok-shape) in
    omega (arith, stay_few _ _ _ _ c.remove-stay.ensures.value)

pub returns : goal.returns
returns c =
    let made = shaped (goal.at.returns c).In_ok-shape in
    let whole = ended_done _ made c.if-session-ge-SESSIONS.false c.notes_at-notes_at.ensures c.length-end.ensures (c.remove-stay.ensures.value, c.remove-stay.ensures.table_after) c.put_number.ensures in record { result_value = whole.0; store_after = whole.1 }
