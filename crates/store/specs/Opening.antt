-- Opening a store: document 01, Store and Refusals by operation, Open.
use Rattle.std.specs.Prelude.{ℕ, ◌&&◌, not, cond, List, [], eqb, ltb, length, Option, None, Some, Result, Ok, Err}
use Rattle.rule.specs.RuleText.{text_fault}
use Rattle.rule.specs.declared.Fault.{Fault}
use Rattle.rule.specs.Refusals.{number}
use Rattle.rule.specs.declared.Refusal.TheVariants.{TooLong, Counts as CountsCause}
use Rattle.store.specs.declared.Counts.{Counts}
use Rattle.store.specs.Store.{counts_fit, store_length, View}
use Rattle.store.specs.Layout.{layout}

-- "4 count out of range or store length unequal to the formula. 1 text over R (line 0), then over 256 lines (line 257). Then the first
-- faulty line". Number 4 has no line: 0
unfoldable pub open_fault : Counts → List ℕ → ℕ → Option Fault
open_fault c text room =
    cond (not (counts_fit c && eqb room (store_length c))) (Some (record { cause = CountsCause; line = 0 }))
    (cond (ltb c.bytes (length text)) (Some (record { cause = TooLong; line = 0 })) (text_fault text))

-- "Opening leaves no used row"
unfoldable pub opened : Counts → List ℕ → View
opened c text = record { counts = c; text = text; filters = []; eqs = []; notes = [] }

-- the store afterwards; "all lent memory is unchanged" where it is refused
unfoldable pub after_open : Counts → List ℕ → List ℕ → List ℕ
after_open c text s = elim (open_fault c text (length s)) [ None ↦ layout (opened c text) | Some f ↦ s ]

-- the number and the line of a refusal
unfoldable pub told : Fault → ℕ × ℕ
told f = (number f.cause, f.line)

-- each answer's number and line: none where the store is open
unfoldable pub says : Result (Unit {0}) Fault → Option (ℕ × ℕ)
says (Ok tt) = None
says (Err f) = Some (number f.cause, f.line)
