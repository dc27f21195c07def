-- The loop's invariant: the rest of the text, with the flag, is valid exactly where the text is. Assumes nothing.
use mathlib.Core.Path.{◌≡◌}
use lib.ListN.{drop}
use Rattle.topic.specs.Topic.{valid_filter}
use Rattle.topic.proofs.Scan.{scan}
use Rattle.topic.proofs.valid_filter.Given as goal

abbrev pub invariant-loop-i : goal.invariant-loop-i
invariant-loop-i l =
    scan l.starts (drop l.i l.text) ≡ valid_filter l.text
