-- `events::connecting::connected` meets its contract: the causes in their order, and then the tables. Assumes nothing.
use mathlib.Core.Path.{◌≡◌, sym, ap, ◌∙◌}
use native.Mathlib.Omega.{arith}
use Rattle.std.specs.Option.{option_copied}
use Rattle.std.specs.Prelude.{None}
use Rattle.std.specs.Result.{result_ok}
use Rattle.rule.specs.Refusals.{number, first}
use Rattle.store.specs.View.{view}
use Rattle.text.proofs.TryLaws.{missing}
use Rattle.store.proofs.PartLaws.{seen_as}
use Rattle.events.specs.Event as spec
use Rattle.events.specs.Event.{says, argument_causes}
use Rattle.events.proofs.StoreLaws.{text_fits, text_within, not_over, over_caused, argument_caused, malformed_caused, id_over, name_too_long, session_over, arguments_fine}
use Rattle.events.proofs.connecting.connected.Goals.{then-id-gt-ID-via-then-id-gt-ID, then-id-gt-ID-via-else-id-gt-ID+then-name_over}
use Rattle.events.proofs.connecting.connected.Goals as goal

pub returns-then-id-gt-ID : goal.returns-then-id-gt-ID
unfolding says number
returns-then-id-gt-ID c =
    let whole = argument_caused _ _ (elim c.then-id-gt-ID.branch [
      | then-id-gt-ID-via-then-id-gt-ID w ↦ id_over _ _ _ w.if-id-gt-ID.true
      | then-id-gt-ID-via-else-id-gt-ID+then-name_over w ↦ name_too_long _ _ _ w.if-id-gt-ID.false (sym w.name_over.ensures ∙ w.if-name_over.true)
    ]) in
    record { result_value = whole.0; store_after = whole.1 }

pub returns-then-session-ge-SESSIONS : goal.returns-then-session-ge-SESSIONS
unfolding says number
returns-then-session-ge-SESSIONS c =
    let whole = argument_caused _ _ (session_over _ _ _ c.if-id-gt-ID.false (sym c.name_over.ensures ∙ c.if-name_over.false) (omega (arith, c.if-session-ge-SESSIONS.true))) in
    record { result_value = whole.0; store_after = whole.1 }

pub returns-in_err-shape : goal.returns-in_err-shape
unfolding says number
returns-in_err-shape c =
    let fine : first (argument_causes (spec.connected c.args.session c.args.id.now (option_copied c.args.name))) ≡ None = arguments_fine _ _ _ c.if-id-gt-ID.false (sym c.name_over.ensures ∙ c.if-name_over.false) (omega (arith, c.if-session-ge-SESSIONS.false)) in
    let none = missing c.shape.result c.from_residual.result c.ok_or.ensures.value c.in_err-shape.was c.from_residual.ensures.1 in
    let whole = malformed_caused _ _ fine (sym c.shape.ensures ∙ none.0) in
    record { result_value = ap says none.1 ∙ whole.0; store_after = whole.1 }

pub overflow_add-text_end : goal.overflow_add-text_end
overflow_add-text_end c =
    let seen = seen_as (view c.args.store.now) c.in_ok-shape.shape (sym c.shape.ensures ∙ c.ok_or.ensures.ok_part ∙ ap result_ok c.in_ok-shape.was) in
    omega (arith, text_fits _ _ seen)

pub slice_bounds-over_filled-end : goal.slice_bounds-over_filled-end
slice_bounds-over_filled-end c =
    text_within _ _ (seen_as (view c.args.store.now) c.in_ok-shape.shape (sym c.shape.ensures ∙ c.ok_or.ensures.ok_part ∙ ap result_ok c.in_ok-shape.was))

pub returns-then-over_filled : goal.returns-then-over_filled
unfolding says number
returns-then-over_filled c =
    let seen = seen_as (view c.args.store.now) c.in_ok-shape.shape (sym c.shape.ensures ∙ c.ok_or.ensures.ok_part ∙ ap result_ok c.in_ok-shape.was) in
    let fine : first (argument_causes (spec.connected c.args.session c.args.id.now (option_copied c.args.name))) ≡ None = arguments_fine _ _ _ c.if-id-gt-ID.false (sym c.name_over.ensures ∙ c.if-name_over.false) (omega (arith, c.if-session-ge-SESSIONS.false)) in
    let whole = over_caused _ _ seen _ _ _ fine (sym c.over_filled.ensures ∙ c.if-over_filled.true) in
    record { result_value = whole.0; store_after = whole.1 }

pub fill_tables-requires : goal.fill_tables-requires
fill_tables-requires c =
    let is = sym c.shape.ensures ∙ c.ok_or.ensures.ok_part ∙ ap result_ok c.in_ok-shape.was in
    record {
      store_value = is;
      names_value = arguments_fine _ _ _ c.if-id-gt-ID.false (sym c.name_over.ensures ∙ c.if-name_over.false) (omega (arith, c.if-session-ge-SESSIONS.false));
      names_value_2 = not_over _ _ (seen_as (view c.args.store.now) c.in_ok-shape.shape is) _ _ (sym c.over_filled.ensures ∙ c.if-over_filled.false);
    }
