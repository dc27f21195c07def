-- `json_text::splitting::within_line` meets its contract. The loop's invariant: `within` says whether the line has `i` bytes. The measure is
-- what is left of the `n`. Assumes nothing.
use mathlib.Core.Path.{◌≡◌, sym, ap, ◌∙◌}
use native.Mathlib.Omega.{arith}
use lib.Dec.{leb, leb-zero}
use lib.ListN.{length}
use Rattle.json_text.specs.Lines.{line_at}
use Rattle.json_text.proofs.LineLaws.{line_longer}
use Rattle.json_text.proofs.splitting.within_line.Goals as goal

pub loop-i-init : goal.loop-i-init
loop-i-init c =
    (omega arith, sym (leb-zero (length (line_at c.args.text.now c.args.at))))

pub loop-i-preserved : goal.loop-i-preserved
loop-i-preserved c =
    (omega arith, rw c.loop-i.invariant.1 (line_longer c.args.text.now c.args.at c.loop-i.i (omega arith)))

pub returns : goal.returns
returns c =
    let all : c.loop-i.i ≡ c.args.n = omega arith in
    c.loop-i.invariant.1 ∙ ap (λ k. leb k (length (line_at c.args.text.now c.args.at))) all
