-- No `$`, or one at which a word stands, with what is filled in for it; else by the two words in turn. Assumes nothing.
use Prim.Native.Nat.{ℕ}
use native.Mathlib.Omega.{arith}
use mathlib.Core.Path.{refl, sym, ap, ◌∙◌}
use mathlib.Core.List.{List}
use Rattle.std.specs.Prelude.{Option}
use Rattle.text.specs.Ascii.{ascii}
use Rattle.authinfo.specs.Given.{given}
use Rattle.authinfo.specs.ClientRule.{filled_topic}
use Rattle.authinfo.specs.Places.{taken_by}
use Rattle.authinfo.proofs.FillingLaws.{absent, named_part, filled_nobody}
use Rattle.authinfo.proofs.WordLaws.{dollar_first, dollar_within, one_word, fill_none, fill_id, fill_name}
use Rattle.authinfo.proofs.filling.filled.Goals as goal

pub returns-then-at-configured : goal.returns-then-at-configured
returns-then-at-configured c =
    let none = sym (dollar_first c.args.configured.now) ∙ (sym c.dollar_from-at.ensures ∙ c.if-at-configured.true) in
    c.taken.ensures ∙ ap (λ (o : Option (List ℕ)). taken_by c.args.asks.now.topic.now (filled_topic c.args.eq o)) (sym (fill_none c.args.asks.now.client.now.id c.args.asks.now.client.now.name c.args.configured.now none))

pub stands_last-requires : goal.stands_last-requires
stands_last-requires c =
    omega (arith, c.dollar_from-at.ensures, dollar_first c.args.configured.now, dollar_within c.args.configured.now)

pub with_word-requires : goal.with_word-requires
with_word-requires c =
    let by_id = one_word (ascii "{clientid}") c.args.configured.now refl (c.dollar_from-at.ensures ∙ dollar_first c.args.configured.now) (sym c.stands_last.ensures ∙ c.if-stands_last.true) in
    record { short = c.requires; word_length_in_bounds = by_id.room }

pub returns-then-stands_last : goal.returns-then-stands_last
returns-then-stands_last c =
    let by_id = one_word (ascii "{clientid}") c.args.configured.now refl (c.dollar_from-at.ensures ∙ dollar_first c.args.configured.now) (sym c.stands_last.ensures ∙ c.if-stands_last.true) in
    rw (← c.client.view_is)
    (c.with_word.ensures ∙ ap (λ (o : Option (List ℕ)). taken_by c.args.asks.now.topic.now (filled_topic c.args.eq o)) (sym (fill_id c.client.inside.id.now (given c.client.inside.name c.client.inside.names.now) c.args.configured.now by_id)))

pub stands_last-requires-2 : goal.stands_last-requires-2
stands_last-requires-2 c =
    omega (arith, c.dollar_from-at.ensures, dollar_first c.args.configured.now, dollar_within c.args.configured.now)

pub returns-in_default : goal.returns-in_default
returns-in_default c =
    let by_name = one_word (ascii "{username}") c.args.configured.now refl (c.dollar_from-at.ensures ∙ dollar_first c.args.configured.now) (sym c.stands_last-2.ensures ∙ c.if-stands_last-2.true) in
    rw (← c.client.view_is) (sym (filled_nobody c.args.asks.now.topic.now c.client.inside.id.now (given c.client.inside.name c.client.inside.names.now) c.args.eq c.args.configured.now by_name.there (absent c.client.inside.names.now c.in_default.is)))

pub with_word-requires-then-stands_last-2 : goal.with_word-requires-then-stands_last-2
with_word-requires-then-stands_last-2 c =
    let by_name = one_word (ascii "{username}") c.args.configured.now refl (c.dollar_from-at.ensures ∙ dollar_first c.args.configured.now) (sym c.stands_last-2.ensures ∙ c.if-stands_last-2.true) in
    record { short = c.requires; word_length_in_bounds = by_name.room }

pub returns-then-stands_last-2 : goal.returns-then-stands_last-2
returns-then-stands_last-2 c =
    let by_name = one_word (ascii "{username}") c.args.configured.now refl (c.dollar_from-at.ensures ∙ dollar_first c.args.configured.now) (sym c.stands_last-2.ensures ∙ c.if-stands_last-2.true) in
    rw (← c.client.view_is)
    (c.with_word-then-stands_last-2.ensures
    ∙ ap (λ (o : Option (List ℕ)). taken_by c.args.asks.now.topic.now (filled_topic c.args.eq o)) (sym (fill_name c.client.inside.id.now (given c.client.inside.name c.client.inside.names.now) c.args.configured.now by_name (named_part c.client.inside.names.now c.in-Some.is c.front-name.ensures))))
