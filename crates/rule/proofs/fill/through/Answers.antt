-- The first pass gives the text between, where it fits; the second fills the buffer. Assumes nothing.
use Prim.Native.Nat.{ℕ}
use Rattle.std.specs.Option.{option_copied}
use mathlib.Core.Path.{refl, ◌∙◌}
use native.Mathlib.Omega.{arith}
use lib.ListN.{replicate, length-replicate}
use Rattle.rule.proofs.FillLaws.{first_room, first_front, first_passes, first_over, names_are, passed_through, not_through}
use Rattle.rule.proofs.fill.through.Goals as goal

pub returns-in_err-n-clause-value : goal.returns-in_err-n-clause-value
returns-in_err-n-clause-value g c =
    c.from_residual.ensures
    ∙ (not_through g.row.N c.args.buffer.now c.args.template.now c.args.id.now (option_copied c.args.name)
    (first_over c.args.template.now c.args.id.now (replicate g.row.N 0) c.replace.ensures.value c.replace.ensures.buffer_after (length-replicate g.row.N 0) c.in_err-n.was)).0

pub returns-in_err-n-clause-buffer_after : goal.returns-in_err-n-clause-buffer_after
returns-in_err-n-clause-buffer_after g c =
    (not_through g.row.N c.args.buffer.now c.args.template.now c.args.id.now (option_copied c.args.name)
    (first_over c.args.template.now c.args.id.now (replicate g.row.N 0) c.replace.ensures.value c.replace.ensures.buffer_after (length-replicate g.row.N 0) c.in_err-n.was)).1

pub shared_whole_as_front-replace : goal.shared_whole_as_front-replace
shared_whole_as_front-replace g c =
    let room = first_room c.args.template.now c.args.id.now (replicate g.row.N 0) c.replace.ensures.value c.replace.ensures.buffer_after c.in_ok-n.was in
    let size = length-replicate {A = ℕ} g.row.N 0 in
    (omega arith, omega arith)

pub returns-clause-value : goal.returns-clause-value
returns-clause-value g c =
    (passed_through g.row.N c.args.buffer.now c.args.template.now c.args.id.now (option_copied c.args.name)
    (first_passes c.args.template.now c.args.id.now (replicate g.row.N 0) c.replace.ensures.value c.replace.ensures.buffer_after (length-replicate g.row.N 0) c.in_ok-n.was)
    (first_front c.args.template.now c.args.id.now (replicate g.row.N 0) c.replace.ensures.value c.replace.ensures.buffer_after c.in_ok-n.was)
    (names_are c.args.name _ refl c.unwrap_or.ensures) c.replace-2.ensures.value c.replace-2.ensures.buffer_after).0

pub returns-clause-buffer_after : goal.returns-clause-buffer_after
returns-clause-buffer_after g c =
    (passed_through g.row.N c.args.buffer.now c.args.template.now c.args.id.now (option_copied c.args.name)
    (first_passes c.args.template.now c.args.id.now (replicate g.row.N 0) c.replace.ensures.value c.replace.ensures.buffer_after (length-replicate g.row.N 0) c.in_ok-n.was)
    (first_front c.args.template.now c.args.id.now (replicate g.row.N 0) c.replace.ensures.value c.replace.ensures.buffer_after c.in_ok-n.was)
    (names_are c.args.name _ refl c.unwrap_or.ensures) c.replace-2.ensures.value c.replace-2.ensures.buffer_after).1
