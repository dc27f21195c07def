-- The part from `at` to where the line ends is the line; past the text both are empty. Assumes nothing.
use native.Mathlib.Omega.{arith}
use mathlib.Core.Path.{sym}
use Rattle.json_text.proofs.LineLaws.{line_past, line_part, line_within}
use Rattle.json_text.proofs.splitting.line_at.Goals as goal

pub returns-then-text-at : goal.returns-then-text-at
returns-then-text-at c =
    sym (line_past _ _ (omega arith))

pub slice_bounds-result-end-2 : goal.slice_bounds-result-end-2
slice_bounds-result-end-2 c =
    omega (arith, line_within c.args.text.now c.args.at (omega arith))

pub returns : goal.returns
returns c =
    rw c.line_end-end.ensures (line_part c.args.text.now c.args.at)
