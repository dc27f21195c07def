-- The row stands behind the place that it is copied to: the front changes there, the rest stays. Assumes nothing.
use Rattle.std.proofs.Common.{length-append, ℕ, List, ◌≡◌, ◌++◌, ◌+◌, ◌≤◌, length, take, drop, refl, sym, ap, ◌∙◌, arith}
use mathlib.Core.List.{append_assoc}
use Rattle.std.proofs.Math.Seq.{drop-append_seam}
use Rattle.std.proofs.lemmas.List.{length-take-le, take-append-le, drop-append-le}
use Rattle.text.specs.Text.{pasted}
use Rattle.text.proofs.Laws.{pasted_fits}
use Rattle.table.proofs.move_row.Goals as goal

copied : (to size : ℕ) (front back : List ℕ) → to + size ≤ length front → size ≤ length back
    → pasted to (take size back) front ++ back ≡ take to (front ++ back) ++ (take size (drop (length front) (front ++ back)) ++ drop (to + size) (front ++ back))
copied to size front back h k =
    let part = length-take-le size back k in
    rw (
      pasted_fits to (take size back) front (omega (arith, part)),
      part,
      take-append-le to front back (omega arith),
      drop-append_seam front back,
      drop-append-le (to + size) front back h,
    )
    (append_assoc (take to front) (take size back ++ drop (to + size) front) back ∙ ap (λ (s : List ℕ). take to front ++ s) (append_assoc (take size back) (drop (to + size) front) back))

pub returns : goal.returns
returns c =
    let split = c.split_at_mut-front in
    let front = split.result.0.now in
    let back = split.result.1.now in
    let whole : c.args.table.now ≡ front ++ back = split.ensures.value in
    let ends : length front ≡ c.args.from = split.ensures.front_len in
    let within : c.args.from + c.args.size ≤ length (front ++ back) = rw (← whole) c.requires.in_bounds in
    let room : c.args.size ≤ length back = omega (arith, simp length-append at within) in
    rw (c.paste.ensures.buffer_after, whole, ← ends)
    (copied c.args.to c.args.size front back (omega arith) room)
