-- A short text between the passes, or a long one. Assumes nothing.
use Rattle.std.specs.Option.{option_copied}
use mathlib.Core.Logic.{inl, inr}
use mathlib.Core.Path.{◌≡◌}
use mathlib.Core.Bool.{false}
use Rattle.rule.specs.Places.{fillable}
use Rattle.rule.proofs.FillLaws.{template_over, id_over, not_filled, through_filled, second_filled, second_fits}
use Rattle.rule.proofs.fill.fill_text.Goals as goal

unfillable : (c : goal.Joined-then-template-gt-TEXT) → fillable c.args.template.now c.args.id.now ≡ false
unfillable c =
    elim c.then-template-gt-TEXT.either [
      | inl h ↦ template_over c.args.template.now c.args.id.now h
      | inr h ↦ id_over c.args.template.now c.args.id.now h.1
    ]

pub returns-then-template-gt-TEXT-clause-value : goal.returns-then-template-gt-TEXT-clause-value
returns-then-template-gt-TEXT-clause-value c =
    (not_filled c.args.buffer.now c.args.template.now c.args.id.now (option_copied c.args.name) (unfillable c)).0

pub returns-then-template-gt-TEXT-clause-buffer_after : goal.returns-then-template-gt-TEXT-clause-buffer_after
returns-then-template-gt-TEXT-clause-buffer_after c =
    (not_filled c.args.buffer.now c.args.template.now c.args.id.now (option_copied c.args.name) (unfillable c)).1

no_second : (c : goal.After-from_residual) → ⊥
no_second c =
    second_fits c.through.new.buffer c.args.template.now c.args.id.now (option_copied c.args.name) c.if-template-gt-TEXT.false c.if-id-gt-ID.false
    (c.through-in-None.ensures.value, c.through-in-None.ensures.buffer_after) c.in_err-through-in-None.was

pub returns-in_err-through-in-None-clause-value : goal.returns-in_err-through-in-None-clause-value
returns-in_err-through-in-None-clause-value c = absurd (no_second c)

pub returns-in_err-through-in-None-clause-buffer_after : goal.returns-in_err-through-in-None-clause-buffer_after
returns-in_err-through-in-None-clause-buffer_after c = absurd (no_second c)

pub returns-in-Some-clause-value : goal.returns-in-Some-clause-value
returns-in-Some-clause-value c =
    (through_filled 256 c.args.buffer.now c.args.template.now c.args.id.now (option_copied c.args.name) c.if-template-gt-TEXT.false c.if-id-gt-ID.false
    (c.through.ensures.value, c.through.ensures.buffer_after) c.in-Some.is).0

pub returns-in-Some-clause-buffer_after : goal.returns-in-Some-clause-buffer_after
returns-in-Some-clause-buffer_after c =
    (through_filled 256 c.args.buffer.now c.args.template.now c.args.id.now (option_copied c.args.name) c.if-template-gt-TEXT.false c.if-id-gt-ID.false
    (c.through.ensures.value, c.through.ensures.buffer_after) c.in-Some.is).1

pub returns-in_ok-through-in-None-clause-value : goal.returns-in_ok-through-in-None-clause-value
returns-in_ok-through-in-None-clause-value c =
    (second_filled c.args.buffer.now c.args.template.now c.args.id.now (option_copied c.args.name) c.if-template-gt-TEXT.false c.if-id-gt-ID.false
    (c.through.ensures.value, c.through.ensures.buffer_after) c.in-None.is (c.through-in-None.ensures.value, c.through-in-None.ensures.buffer_after)
    c.in_ok-through-in-None.was).0

pub returns-in_ok-through-in-None-clause-buffer_after : goal.returns-in_ok-through-in-None-clause-buffer_after
returns-in_ok-through-in-None-clause-buffer_after c =
    (second_filled c.args.buffer.now c.args.template.now c.args.id.now (option_copied c.args.name) c.if-template-gt-TEXT.false c.if-id-gt-ID.false
    (c.through.ensures.value, c.through.ensures.buffer_after) c.in-None.is (c.through-in-None.ensures.value, c.through-in-None.ensures.buffer_after)
    c.in_ok-through-in-None.was).1
