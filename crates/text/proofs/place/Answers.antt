-- `text::place` meets its contract: an empty pattern never occurs, and the first window that is the pattern is the first occurrence.
-- Assumes nothing.
use Prim.Native.Nat.{ℕ, ◌+◌, ◌≤◌}
use mathlib.Core.Bool.{Bool, true, false}
use mathlib.Core.List.{List}
use mathlib.Core.Path.{◌≡◌, refl, sym, ap, ◌∙◌}
use native.Mathlib.Omega.{arith}
use borrow.Author.Tests.{eqb-true, eqb-false, leb-true, leb-false}
use borrow.Author.Rules.{rules}
use denote.Ref.{Bor}
use denote.Param.Members.{Mut, Called}
use lib.Dec.{eqb, leb}
use lib.ListN.{length, drop, length-drop}
use Rattle.std.specs.Prelude.{Option, Some, None, IsTrue, MatchOption, IfSome, IsSomeAnd}
use Rattle.std.proofs.lemmas.Option.{none-some}
use Rattle.std.specs.Cmp.Lexicographic.{pointwise}
use Rattle.std.specs.Option.{option_map}
use Rattle.std.specs.Slice.Iter.{windows_size, windows_rest}
use Rattle.std.specs.List.{IsSubsliceAt}
use Rattle.std.specs.Iterator.Runs.{Run, IsWindowsRun, AllItemsGive, IsFirstToGive, CallKeepsClosure}
use Rattle.text.specs.Text.{occurs, FirstAt}
use Rattle.text.proofs.Laws.{begins_fits, begins_short, occurs_empty, occurs_begins}
use Rattle.text.proofs.place.Goals as goal

-- an item that stands there, with what is known of it
given : {X A : Type 0} {y : A} (P : X → Type 0) (v : X → A) (o : Option X) → IfSome o P → option_map v o ≡ Some y → IsSomeAnd o P
given P v None h e = absurd (none-some _ e)
given P v (Some x) h e = h

module _ {F : Type 0} (g : Mut F (Bor (List ℕ) × Unit {0}) Bool) (f : F) (pattern text : List ℕ)
    (some : length pattern ≡ 0 → ⊥) (keeps : CallKeepsClosure g f)
    (tests : (x : Bor (List ℕ)) (b : Bool) → Called g f (x, tt) b f → b ≡ pointwise eqb x.now pattern) where
  abbrev Window : ℕ → Bor (List ℕ) → Type 0
  Window k x = (length x.now ≡ length pattern) × (k + length pattern ≤ length text) × IsSubsliceAt (length pattern) text k x.now

  -- what the closure answered at a window
  tested : (b : Bool) (k : ℕ) (o : Option (Bor (List ℕ))) → IfSome o (Window k) → IsSomeAnd o (λ x. Called g f (x, tt) b f)
      → (k + length pattern ≤ length text) × (occurs pattern (drop k text) ≡ b)
  tested b k None w h = absurd h
  tested b k (Some x) w h =
      let left = length-drop k text in
      let begun = begins_fits pattern (drop k text) (omega arith) in
      let told = rw w.2.0 at (tests x b h) in
      (w.1, occurs_begins _ _ some ∙ sym begun ∙ sym told)

  first_window : {S : Type 0} {steps : S → Option (Bor (List ℕ)) → S → Type 0} (p : Run steps) (found : Option ℕ) → IsWindowsRun p (length pattern) text
      → MatchOption found (IsTrue p.whole × AllItemsGive p g f false) (λ i. (p.len ≡ i + 1) × IsFirstToGive p g f true false i)
      → FirstAt pattern text found
  first_window p None w h = λ k. at k (leb (k + length pattern) (length text)) refl
    where
      at : (k : ℕ) (t : Bool) → leb (k + length pattern) (length text) ≡ t → occurs pattern (drop k text) ≡ false
      at k true e =
          let inside = leb-true (k + length pattern) (length text) e in
          let all = w.1 h.0 in
          (tested false k (p.at k) (w.2 k) (given _ _ (p.at k) (h.1 keeps k) (w.3 k 0 (omega arith)))).1
      at k false e =
          let past = leb-false (k + length pattern) (length text) e in
          let left = length-drop k text in
          occurs_begins _ _ some ∙ begins_short _ _ (omega arith)
  first_window p (Some i) w h =
      let hit = tested true i (p.at i) (w.2 i) (h.1 keeps).0 in
      (hit.0, hit.1, λ k q. (tested false k (p.at k) (w.2 k) ((h.1 keeps).1 k q)).1)

pub returns-then-is_empty : goal.returns-then-is_empty
returns-then-is_empty c = λ k. occurs_empty _ _ (eqb-true _ _ (sym c.if-is_empty.ensures))

pub returns : goal.returns
returns c =
    let found = c.position.ensures.runs in
    let size = ap windows_size found.1 ∙ c.windows.ensures.size in
    let rest = ap windows_rest found.1 ∙ c.windows.ensures.rest in
    let some = eqb-false (length c.args.pattern.now) 0 (sym c.if-is_empty.ensures) in
    let all = rw (size, rest) at (c.windows.ensures.runs found.0 found.0.seen) in
    first_window _ _ c.args.pattern.now c.args.text.now some (λ a r f' k. search rules) (λ x b k. search rules) found.0 c.position.result (all (omega arith)) found.2
