-- The parts of the line between its TABs. Assumes nothing.
use Rattle.std.specs.Option.{option_map, unwrap_or}
use Rattle.std.specs.List.{slice_split, slice_get}
use Rattle.std.proofs.Common.{◌≡◌, [], ap, ◌∙◌, rules, tests}
use Rattle.std.proofs.lemmas.Iterator.Consumers.{nth_from_yields_List}
use Rattle.std.proofs.lemmas.Iterator.Splits.{YieldsList-from_slice_split}
use Rattle.vectors.specs.Fields.{is_tab, field}
use Rattle.vectors.proofs.Laws.{now_or}
use Rattle.vectors.proofs.fields.field.Goals as goal

pub returns : goal.returns
unfolding field
returns c =
    let part : option_map (λ x. x.now) c.nth.result ≡ slice_get (slice_split is_tab c.args.line.now) c.args.n =
    nth_from_yields_List _ _ c.args.n c.nth.ensures.ran (YieldsList-from_slice_split _ is_tab c.args.line.now c.split.ensures.rest c.split.ensures.done c.split.ensures.closure (λ x r q k. search (rules, tests))) in
    ap (λ x. x.now) c.unwrap_or.ensures ∙ (now_or c.nth.result _ ∙ ap (λ o. unwrap_or o []) part)
