-- Each return has the kind of the value, and of a string the word. Assumes nothing.
use Rattle.std.specs.Prelude.{Some, option_map}
use mathlib.Core.Path.{sym, ap, ◌∙◌}
use Rattle.rule.proofs.MemberLaws.{word_users, not_all, users_word, users_object, users_other}
use Rattle.rule.specs.Places.{placed_users}
use Rattle.rule.proofs.listed.users_at.Goals as goal

pub returns-in_err-word_at-in-Text : goal.returns-in_err-word_at-in-Text
returns-in_err-word_at-in-Text c =
    c.from_residual.ensures
    ∙ sym (users_word c.args.allow c.args.line.now c.args.at (sym c.kind_at.ensures ∙ c.in-Text.is) (sym c.in_err-word_at-in-Text.ensures))

pub returns-in-All : goal.returns-in-All
unfolding word_users
returns-in-All c =
    sym
    (users_word c.args.allow c.args.line.now c.args.at (sym c.kind_at.ensures ∙ c.in-Text.is) (sym c.in_ok-word_at-in-Text.ensures ∙ ap Some c.in-All.is))

pub returns-in_default : goal.returns-in_default
returns-in_default c =
    sym (users_other c.args.allow c.args.line.now c.args.at (λ e. c.in_default.not-Text (c.kind_at.ensures ∙ e))
    (λ e. c.in_default.not-Object (c.kind_at.ensures ∙ e)))

pub returns-in_default-2 : goal.returns-in_default-2
returns-in_default-2 c =
    sym
    (users_word c.args.allow c.args.line.now c.args.at (sym c.kind_at.ensures ∙ c.in-Text.is) (sym c.in_ok-word_at-in-Text.ensures)
    ∙ not_all _ c.in_default-2.not-All)

pub returns-in-Object : goal.returns-in-Object
returns-in-Object c =
    c.listed_users.ensures ∙ ap (option_map placed_users) (users_object c.args.allow c.args.line.now c.args.at (sym c.kind_at.ensures ∙ c.in-Object.is))
