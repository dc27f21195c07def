-- `events::leaving::disconnected` meets its contract. A store that has a shape is the layout of a view; the client's filter rows that a note of the session clears go,
-- and what is left is laid out again. Assumes nothing.
use native.Mathlib.Omega.{arith}
use mathlib.Core.Path.{sym, ap, ◌∙◌}
use Rattle.std.specs.Result.{result_ok}
use lib.Seq.{length-take-le}
use Rattle.store.specs.Store.{store_length}
use Rattle.store.specs.Layout.{filters_at, eqs_at, notes_at}
use Rattle.text.proofs.TryLaws.{missing}
use Rattle.store.proofs.PartLaws.{Shaped, shaped_told, bounds_of}
use Rattle.events.specs.Event.{says}
use Rattle.events.proofs.LeaveLaws.{stay_few, disconnected_long, disconnected_out, disconnected_unread, disconnected_done}
use Rattle.events.proofs.leaving.disconnected.Goals.{In_ok-shape}
use Rattle.events.proofs.leaving.disconnected.Goals as goal

-- the store is the layout of a view of this shape
shaped : (c : In_ok-shape) → Shaped c.args.store.now c.in_ok-shape.shape
shaped c = shaped_told _ c.shape.ensures (c.ok_or.ensures.ok_part ∙ ap result_ok c.in_ok-shape.was)

pub returns-then-id-gt-ID : goal.returns-then-id-gt-ID
returns-then-id-gt-ID c =
    let whole = disconnected_long _ _ _ c.if-id-gt-ID.true in record { result_value = whole.0; store_after = whole.1 }

pub returns-then-session-ge-SESSIONS : goal.returns-then-session-ge-SESSIONS
returns-then-session-ge-SESSIONS c =
    let whole = disconnected_out _ _ _ c.if-id-gt-ID.false c.if-session-ge-SESSIONS.true in record { result_value = whole.0; store_after = whole.1 }

pub returns-in_err-shape : goal.returns-in_err-shape
returns-in_err-shape c =
    let none = missing c.shape.result c.from_residual.result c.ok_or.ensures.value c.in_err-shape.was c.from_residual.ensures.1 in
    let whole = disconnected_unread _ _ _ c.if-id-gt-ID.false c.if-session-ge-SESSIONS.false c.shape.ensures none.0 in record { result_value = ap says none.1 ∙ whole.0; store_after = whole.1 }

pub split_at_mut-front-requires : goal.split_at_mut-front-requires
unfolding store_length notes_at eqs_at filters_at
split_at_mut-front-requires c =
    let sizes = bounds_of (shaped (goal.at.split_at_mut-front-requires c).In_ok-shape) in
    omega (arith, c.notes_at.ensures)

pub overflow_mul-shape : goal.overflow_mul-shape
overflow_mul-shape c =
    let sizes = bounds_of (shaped (goal.at.overflow_mul-shape c).In_ok-shape) in
    omega arith

pub slice_bounds-remove_cleared-end-2 : goal.slice_bounds-remove_cleared-end-2
unfolding store_length notes_at eqs_at filters_at
slice_bounds-remove_cleared-end-2 c =
    let sizes = bounds_of (shaped (goal.at.slice_bounds-remove_cleared-end-2 c).In_ok-shape) in
    omega (arith, c.notes_at.ensures, c.split_at_mut-front.ensures.back_len)

pub slice_bounds-remove_cleared-end-3 : goal.slice_bounds-remove_cleared-end-3
unfolding store_length notes_at eqs_at filters_at
slice_bounds-remove_cleared-end-3 c =
    let sizes = bounds_of (shaped (goal.at.slice_bounds-remove_cleared-end-3 c).In_ok-shape) in
    sym (length-take-le _ _ (omega (arith, c.notes_at.ensures, c.split_at_mut-front.ensures.back_len)))

pub overflow_cast-stay : goal.overflow_cast-stay
overflow_cast-stay c =
    let sizes = bounds_of (shaped (goal.at.overflow_cast-stay c).In_ok-shape) in
    omega (arith, stay_few _ _ _ _ c.remove_cleared-stay.ensures.value)

pub returns : goal.returns
returns c =
    let made = shaped (goal.at.returns c).In_ok-shape in
    let stays = rw (c.split_at_mut-front.ensures.front, c.split_at_mut-front.ensures.back) at c.remove_cleared-stay.ensures.value in
    let part = rw (c.split_at_mut-front.ensures.front, c.split_at_mut-front.ensures.back) at c.remove_cleared-stay.ensures.filters_after in
    let whole = disconnected_done _ _ made c.if-id-gt-ID.false c.if-session-ge-SESSIONS.false c.filters_at-filters_at.ensures c.eqs_at-eqs_at.ensures c.notes_at.ensures (stays, part)
    (rw (c.split_at_mut-front.ensures.front, c.split_at_mut-front.ensures.back) at c.put_number.ensures) in
    record { result_value = whole.0; store_after = whole.1 }
