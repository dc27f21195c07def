-- The loop's invariant: the line that begins at `i` ends where the line that begins at `at` does. The measure is what is left of
-- the text. Assumes nothing.
use mathlib.Core.Path.{refl, sym, ◌∙◌}
use Rattle.json_text.proofs.LineLaws.{end_later}
use Rattle.json_text.proofs.splitting.past_stretches.Goals as goal

pub loop-i-init : goal.loop-i-init
loop-i-init c =
    refl

pub loop-i-preserved : goal.loop-i-preserved
loop-i-preserved c =
    end_later c.args.text.now c.loop-i.i 32 (sym c.within_line.ensures ∙ c.if-not-within_line.false) ∙ c.loop-i.invariant
