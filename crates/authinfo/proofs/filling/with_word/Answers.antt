-- Three parts are put one behind the other, and fit. Assumes nothing.
use native.Mathlib.Omega.{arith}
use mathlib.Core.Path.{sym, ◌∙◌}
use lib.ListN.{replicate}
use lib.Seq.{length-take-le}
use Rattle.authinfo.specs.Filling.{word_put}
use Rattle.authinfo.proofs.FillingLaws.{taken_long, taken_same}
use Rattle.authinfo.proofs.WordLaws.{put_long, Filled, three_parts}
use borrow.Author.Rules.{part_to_end}
use Rattle.authinfo.proofs.filling.with_word.Goals as goal

pub returns-then-kept-new : goal.returns-then-kept-new
returns-then-kept-new c =
    sym (taken_long c.args.topic.now (word_put c.args.text.now c.args.at c.args.new.now) c.args.eq (put_long c.args.text.now c.args.at c.args.new.now c.requires.short c.requires.word_length_in_bounds c.if-kept-new.true))

pub slice_bounds-paste-end : goal.slice_bounds-paste-end
slice_bounds-paste-end c =
    sym (length-take-le c.args.at c.args.text.now (omega (arith, c.requires.word_length_in_bounds)))

pub slice_bounds-taken-end : goal.slice_bounds-taken-end
slice_bounds-taken-end c =
    let full : Filled c.args.text.now c.args.at c.args.new.now c.paste-3.new.buffer = three_parts c.args.text.now c.args.at c.args.new.now (replicate 256 0) c.requires.word_length_in_bounds (omega (arith, c.requires.short, c.requires.word_length_in_bounds, c.if-kept-new.false)) c.paste.ensures.buffer_after c.paste-2.ensures.buffer_after (rw part_to_end at c.paste-3.ensures.buffer_after) in
    sym (length-take-le _ _ (full).room)

pub returns : goal.returns
returns c =
    let full : Filled c.args.text.now c.args.at c.args.new.now c.paste-3.new.buffer = three_parts c.args.text.now c.args.at c.args.new.now (replicate 256 0) c.requires.word_length_in_bounds (omega (arith, c.requires.short, c.requires.word_length_in_bounds, c.if-kept-new.false)) c.paste.ensures.buffer_after c.paste-2.ensures.buffer_after (rw part_to_end at c.paste-3.ensures.buffer_after) in
    c.taken.ensures ∙ taken_same c.args.topic.now c.args.eq (full).front
