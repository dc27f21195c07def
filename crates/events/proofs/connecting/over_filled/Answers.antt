-- The lines are gone over one by one. Assumes nothing.
use mathlib.Core.Path.{◌∙◌}
use borrow.Author.Rules.{rules}
use denote.Bor.{Bor}
use Prim.Native.Nat.{ℕ}
use mathlib.Core.List.{List}
use Rattle.std.specs.Option.{option_copied}
use Rattle.std.proofs.lemmas.Iterator.Search.{any_from_yields_List}
use Rattle.std.proofs.lemmas.Iterator.Consumers.{YieldsList-from_first}
use Rattle.json_text.specs.declared.splitting.Lines.{Lines}
use Rattle.json_text.specs.Lines.{lines}
use Rattle.events.specs.Templates.{line_over}
use Rattle.events.proofs.PlaceWalk.{text_over}
use Rattle.events.proofs.connecting.over_filled.Goals as goal

pub returns : goal.returns
returns c =
    let all = YieldsList-from_first (λ (line : Bor (List ℕ)). line.now) (λ (s : Lines). lines s.rest.now) {s = c.new.result} _ (λ i. lines (c.new.ensures i).now) in
    any_from_yields_List (line_over c.args.who.id.now (option_copied c.args.who.name)) c.any.new.self _ c.any.result c.any.ensures.ran all (λ x b q k. search rules)
    ∙ text_over c.args.who.id.now (option_copied c.args.who.name) c.args.who.short c.args.rules.now
