-- The place is given, and those behind it are left. Assumes nothing.
use Rattle.std.proofs.Common.{ℕ, Option, ◌∷◌, sym, ap, ◌∙◌, length, arith}
use Rattle.json_text.specs.Access.{places_from}
use Rattle.json_text.proofs.PlaceLaws.{places_none, places_some}
use Rattle.json_text.proofs.access.ElementsIterator.next.Goals as goal

pub returns-in_err-at-clause-steps : goal.returns-in_err-at-clause-steps
returns-in_err-at-clause-steps c =
    let line = c.args.self.now.line.now in
    let none = ap (places_from line) c.in_err-at.was ∙ places_none line in
    rw c.from_residual.ensures (none, none)

pub returns-clause-steps : goal.returns-clause-steps
returns-clause-steps c =
    let line = c.args.self.now.line.now in
    ap (places_from line) c.in_ok-at.was
    ∙ (places_some line c.in_ok-at.at ∙ ap (λ (o : Option ℕ). c.in_ok-at.at ∷ places_from line o) (sym c.next_item-self.ensures))

pub returns-clause-goes : goal.returns-clause-goes
returns-clause-goes c =
    let line = c.args.self.now.line.now in
    let shorter =
    ap length
    (ap (places_from line) c.in_ok-at.was
    ∙ (places_some line c.in_ok-at.at ∙ ap (λ (o : Option ℕ). c.in_ok-at.at ∷ places_from line o) (sym c.next_item-self.ensures))) in
    record { on = λ _. (tt, tt, omega arith); keeps = tt; rests = λ _. tt }
