-- A plain string is read in place, another one decoded; no string is over 256 bytes, so it fits. Assumes nothing.
use mathlib.Core.Path.{sym, ap, ◌∙◌}
use Rattle.std.specs.Prelude.{Some}
use lib.ListN.{replicate}
use lib.Seq.{length-take-le}
use Rattle.json_text.specs.Strings.{string_at}
use Rattle.json_text.proofs.PlainLaws.{plain_string}
use Rattle.rule.proofs.DecodeLaws.{decoded_length}
use Rattle.authinfo.specs.Places.{topic_takes}
use Rattle.authinfo.proofs.FillingLaws.{short_there, text_there, no_topic}
use Rattle.authinfo.proofs.filling.topic_at.Goals as goal

pub configured-requires : goal.configured-requires
configured-requires c =
    let found = plain_string c.args.word.now.line.now c.args.word.now.at (sym c.args.word.now.closes ∙ c.in-Some.is) in
    (short_there (string_at c.args.word.now.line.now c.args.word.now.at) found.string c.requires)

pub returns-in-Some : goal.returns-in-Some
returns-in-Some c =
    let found = plain_string c.args.word.now.line.now c.args.word.now.at (sym c.args.word.now.closes ∙ c.in-Some.is) in
    c.configured.ensures
    ∙ sym (ap (topic_takes c.args.asks.now.topic.now c.args.asks.now.client.now.id c.args.asks.now.client.now.name) (text_there (string_at c.args.word.now.line.now c.args.word.now.at) found.string))

pub slice_bounds-decoded-end : goal.slice_bounds-decoded-end
slice_bounds-decoded-end c =
    (decoded_length (replicate 256 0) (string_at c.args.word.now.line.now c.args.word.now.at) c.decode.ensures.value c.decode.ensures.buffer_after c.in-Ok.is).room

pub slice_bounds-configured-end-in-Ok : goal.slice_bounds-configured-end-in-Ok
slice_bounds-configured-end-in-Ok c =
    sym (length-take-le c.in-Ok.n _ (decoded_length (replicate 256 0) (string_at c.args.word.now.line.now c.args.word.now.at) c.decode.ensures.value c.decode.ensures.buffer_after c.in-Ok.is).room)

pub configured-requires-in-Ok : goal.configured-requires-in-Ok
configured-requires-in-Ok c =
    let k = decoded_length (replicate 256 0) (string_at c.args.word.now.line.now c.args.word.now.at) c.decode.ensures.value c.decode.ensures.buffer_after c.in-Ok.is in
    rw k.front (short_there (string_at c.args.word.now.line.now c.args.word.now.at) k.is c.requires)

pub returns-in-Ok : goal.returns-in-Ok
returns-in-Ok c =
    let k = decoded_length (replicate 256 0) (string_at c.args.word.now.line.now c.args.word.now.at) c.decode.ensures.value c.decode.ensures.buffer_after c.in-Ok.is in
    c.configured-in-Ok.ensures
    ∙ ap (topic_takes c.args.asks.now.topic.now c.args.asks.now.client.now.id c.args.asks.now.client.now.name) (ap Some k.front ∙ sym (text_there (string_at c.args.word.now.line.now c.args.word.now.at) k.is))

pub returns-in-Err : goal.returns-in-Err
returns-in-Err c =
    sym (no_topic c.args.asks.now.topic.now c.args.asks.now.client.now.id c.args.asks.now.client.now.name (string_at c.args.word.now.line.now c.args.word.now.at) c.decode.ensures.value c.in-Err.is c.requires)
