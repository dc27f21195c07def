-- The range of UTF8-tail. Assumes nothing.
use Rattle.json_text.specs.Utf8.{tail}
use Rattle.json_text.proofs.utf8.is_tail.Goals as goal

pub returns : goal.returns
unfolding tail
returns c =
    c.in_range.ensures
