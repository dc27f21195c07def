-- `events::leaving::text_clears` meets its contract: texts that begin apart, T of the note's levels, and the note's validity. Assumes nothing.
use mathlib.Core.Path.{sym, ap, ◌∙◌}
use mathlib.Core.Bool.{not, true≢false, and-false, and-true}
use Rattle.topic.specs.Topic.{valid_filter}
use Rattle.events.proofs.LeaveLaws.{text_apart, text_known}
use Rattle.events.proofs.leaving.text_clears.Goals as goal
use Rattle.events.proofs.leaving.text_clears.Goals.{then-not-begins_apart, else-not-begins_apart}

pub returns-then-tree_match_known : goal.returns-then-tree_match_known
returns-then-tree_match_known c =
    elim c.if-not-begins_apart.branch [
      | then-not-begins_apart w ↦ let known = text_known c.args.filter.now c.args.note.now (sym w.tree_match_known.ensures ∙ (sym w.value-is ∙ c.if-tree_match_known.true)) in c.valid_filter.ensures ∙ sym (known ∙ and-true (valid_filter c.args.note.now))
      | else-not-begins_apart w ↦ absurd (true≢false (sym c.if-tree_match_known.true ∙ (w.value-is ∙ ap not w.if-not-begins_apart.false)))
    ]

pub returns-else-tree_match_known : goal.returns-else-tree_match_known
returns-else-tree_match_known c =
    elim c.if-not-begins_apart.branch [
      | then-not-begins_apart w ↦ let known = text_known c.args.filter.now c.args.note.now (sym w.tree_match_known.ensures ∙ (sym w.value-is ∙ c.if-tree_match_known.false)) in c.if-tree_match_known.false ∙ sym (known ∙ and-false (valid_filter c.args.note.now))
      | else-not-begins_apart w ↦ c.if-tree_match_known.false ∙ sym (text_apart c.args.filter.now c.args.note.now (sym c.begins_apart.ensures ∙ w.if-not-begins_apart.false))
    ]
