-- Laws of the three questions on a store: its parts as the code cuts them are what it means, and each kind of answer. Assumes nothing.
use Prim.Native.Nat.{ℕ, suc, ◌+◌, ◌-◌, ◌*◌, ◌≤◌}
use mathlib.Core.Path.{◌≡◌, refl, sym, ap, ◌∙◌}
use mathlib.Core.Bool.{Bool, true, cond}
use mathlib.Core.List.{List}
use Rattle.std.specs.Prelude.{Option, None, Some, Result, Err, IsErrAnd, ok_or}
use Rattle.std.specs.Option.{is_some, unwrap_or}
use Rattle.std.proofs.lemmas.Result.{err_from_is_err_and}
use native.Mathlib.Omega.{arith}
use lib.ListN.{length, take, drop}
use Rattle.json_text.specs.Lines.{lines}
use Rattle.table.specs.Table.{some_row}
use Rattle.rule.specs.RuleText.{rules_of}
use Rattle.rule.specs.Rule.{Meaning}
use Rattle.rule.specs.Identity.{Client, superuser}
use Rattle.rule.specs.declared.Refusal.{Refusal}
use Rattle.rule.specs.declared.Refusal.TheVariants.{Malformed}
use Rattle.store.specs.Store.{filter_size, eq_size, store_length, View}
use Rattle.store.specs.Layout.{layout, filters_at, eqs_at}
use Rattle.store.specs.View.{view}
use Rattle.store.specs.Check.{shape_of}
use Rattle.store.specs.declared.Shape.{Shape}
use Rattle.store.proofs.LayoutLaws.{Fits, well_formed_parts, openable_parts, well_formed-fits}
use Rattle.store.proofs.PartLaws.{text_read, filters_read, eqs_read, shape_of_lem, shape_is, seen_as, malformed_told, bounds_told}
use Rattle.store.proofs.ViewLaws.{view-layout, view-well_formed}
use Rattle.questions.specs.Question.{Question, Decision, kept, Reply, refuses, decides, connects, subscribes, publishes, code_limit, question_cause}
use Rattle.questions.specs.Question as question
use Rattle.questions.specs.Decision.{Wish, client, wish, keeps, first_from, refusal, allowance, by_rule, or_kept, decide, decided, ask_view, ask}
use Rattle.questions.specs.Parts.{filter_rows, eq_rows, every_rule, deciding_of, deciding, deciding_on}
use Rattle.questions.specs.declared.Deciding.{Deciding}
use Rattle.questions.proofs.PassLaws.{faultless_every}

-- ---- a store whose shape is known

module _ (s : List ℕ) {shape : Shape} {v : View} (e : shape_of (view s) ≡ Some shape) (h : view s ≡ Some v) where
  -- the shape is that of what the store means
  is_shape : shape ≡ shape_of_lem v
  is_shape = shape_is (view s) e h

  laid_out : layout v ≡ s
  laid_out = view-layout s v h

  fits : Fits v
  fits = well_formed-fits v (view-well_formed s v h)

  -- the parts
  text_is : take (16 + shape.text - 16) (drop 16 s) ≡ v.text
  text_is = rw (is_shape, ← laid_out) (text_read v fits)

  filters_are : {from : ℕ} → from ≡ filters_at shape.counts → filter_rows (take (from + shape.filters * filter_size - from) (drop from s)) ≡ v.filters
  unfolding filter_rows
  filters_are p = rw (is_shape, ← laid_out) (filters_read v fits (p ∙ ap (λ (x : Shape). filters_at x.counts) is_shape))

  eqs_are : {from : ℕ} → from ≡ eqs_at shape.counts → eq_rows (take (from + shape.eqs * eq_size - from) (drop from s)) ≡ v.eqs
  unfolding eq_rows
  eqs_are p = rw (is_shape, ← laid_out) (eqs_read v fits (p ∙ ap (λ (x : Shape). eqs_at x.counts) is_shape))

  -- what decides on the parts decides on what the store means
  pub decides_on : {filters eqs : ℕ} {answer : Option Deciding} (c : Client) (w : Wish) → filters ≡ filters_at shape.counts → eqs ≡ eqs_at shape.counts
      → answer ≡ deciding c w (take (16 + shape.text - 16) (drop 16 s)) (take (filters + shape.filters * filter_size - filters) (drop filters s)) (take (eqs + shape.eqs * eq_size - eqs) (drop eqs s))
      → answer ≡ deciding_on c w v
  unfolding deciding deciding_on
  decides_on c w p q r =
      let f = filters_are p in
      let g = eqs_are q in
      r ∙ (λ i. deciding_of (first_from (λ t. some_row t (f i)) (λ t. some_row t (g i)) c w 0 (rules_of (text_is i))))

-- the rule text's lines are rules
pub text_rules : (s : List ℕ) {shape : Shape} → shape_of (view s) ≡ Some shape → every_rule (lines (take (16 + shape.text - 16) (drop 16 s))) ≡ true
text_rules s e =
    let v = seen_as (view s) _ e in
    let opens = (well_formed_parts v.seen (view-well_formed s v.seen v.is)).head in
    ap (λ (t : List ℕ). every_rule (lines t)) (text_is s e v.is) ∙ faultless_every v.seen.text (openable_parts _ _ opens).faultless

-- the parts lie in the store
pub record Within (s : List ℕ) (shape : Shape) : Type 0 where
  pub text : 16 + shape.text ≤ length s
  pub filters : filters_at shape.counts + shape.filters * filter_size ≤ length s
  pub eqs : eqs_at shape.counts + shape.eqs * eq_size ≤ length s

pub within : (s : List ℕ) {shape : Shape} → shape_of (view s) ≡ Some shape → Within s shape
unfolding filters_at eqs_at store_length
within s e =
    let b = bounds_told s refl e in
    record { text = omega (arith, b.size, b.text); filters = omega (arith, b.size, b.text, b.filters); eqs = omega (arith, b.size, b.text, b.filters, b.eqs) }

-- ---- the answer, by what is known

some_is : (o : Option ℕ) → is_some o ≡ true → o ≡ Some (unwrap_or o 0)
some_is None e = let z : ◌≡◌ {A = ℕ} 0 1 = cc in absurd (omega arith)
some_is (Some n) e = refl

-- "The first cause in the order listed gives the number"
module _ (q : Question) (s : List ℕ) where
  pub refuses_by : {n : ℕ} → question_cause q ≡ Some n → ask q s ≡ refuses n 0
  unfolding ask ask_view
  refuses_by e = λ i. elim (e i) as (λ _. Reply) [ None ↦ decided q (view s) | Some n ↦ refuses n 0 ]

  pub refuses_first : is_some (question_cause q) ≡ true → ask q s ≡ refuses (unwrap_or (question_cause q) 0) 0
  refuses_first e = refuses_by (some_is (question_cause q) e)

  module _ (e : question_cause q ≡ None) where
    decided_by_lem : {o : Option View} → view s ≡ o → ask q s ≡ decided q o
    unfolding ask ask_view
    decided_by_lem h = λ i. elim (e i) as (λ _. Reply) [ None ↦ decided q (h i) | Some n ↦ refuses n 0 ]

    pub refuses_malformed : view s ≡ None → ask q s ≡ refuses 3 0
    unfolding decided
    refuses_malformed h = decided_by_lem h

    pub malformed_by : shape_of (view s) ≡ None → ask q s ≡ refuses 3 0
    malformed_by h = refuses_malformed (malformed_told s refl h)

    -- of a store as laid out
    pub keeps_by : {v : View} {code : ℕ} → view s ≡ Some v → keeps q ≡ Some code → ask q s ≡ decides (kept code)
    unfolding decided decide or_kept
    keeps_by h k = decided_by_lem h ∙ rw k

    pub decides_by : {v : View} → view s ≡ Some v → keeps q ≡ None
        → ask q s ≡ decides (by_rule q (first_from (λ p. some_row p v.filters) (λ p. some_row p v.eqs) (client q) (wish q) 0 (rules_of v.text)))
    unfolding decided decide or_kept
    decides_by h k = decided_by_lem h ∙ rw k

-- what an agreeing rule gives, by its access and the superuser flag
unfoldable pub allowed : Question → ℕ → Bool → Decision
allowed (question.connect earlier c) n flag = connects n flag
allowed (question.subscribe earlier c topic qos) n flag = subscribes n qos
allowed (question.publish earlier c topic disconnect) n flag = publishes n

unfoldable pub decided_by : Question → Option Deciding → Decision
decided_by q None = refusal q 0
decided_by q (Some d) = cond d.allow (allowed q d.rule d.superuser) (refusal q d.rule)

allows : (q : Question) (n : ℕ) (r : Meaning) → allowance q n r ≡ allowed q n (superuser r)
unfolding allowance allowed
allows (question.connect earlier c) n r = refl
allows (question.subscribe earlier c topic qos) n r = refl
allows (question.publish earlier c topic disconnect) n r = refl

by_rule_lem : (q : Question) (o : Option (ℕ × Meaning)) → by_rule q o ≡ decided_by q (deciding_of o)
unfolding by_rule decided_by deciding_of
by_rule_lem q None = refl
by_rule_lem q (Some f) = ap (λ (d : Decision). cond f.1.allow d (refusal q (suc f.0))) (allows q (suc f.0) f.1)

-- of a store with a shape
pub keeps_laid : (q : Question) (s : List ℕ) (shape : Shape) → question_cause q ≡ None → shape_of (view s) ≡ Some shape → is_some (keeps q) ≡ true
    → ask q s ≡ decides (kept (unwrap_or (keeps q) 0))
keeps_laid q s shape e laid k = keeps_by q s e (seen_as (view s) shape laid).is (some_is (keeps q) k)

-- and once `deciding_on` has answered
pub decides_laid : (q : Question) (s : List ℕ) {answer : Option Deciding} → ((v : View) → view s ≡ Some v → answer ≡ deciding_on (client q) (wish q) v)
    → (shape : Shape) → question_cause q ≡ None → shape_of (view s) ≡ Some shape → keeps q ≡ None → ask q s ≡ decides (decided_by q answer)
unfolding deciding_on
decides_laid q s told shape e laid k =
    let v = seen_as (view s) shape laid in
    decides_by q s e v.is k ∙ ap decides (by_rule_lem q _ ∙ ap (decided_by q) (sym (told v.seen v.is)))

-- what `?` passes on where `ok_or` found no shape
pub malformed_answer : {A : Type 0} {answer : Result A Refusal} {shape : Option Shape} {cause : Refusal} → IsErrAnd answer (λ y. y ≡ cause)
    → Err cause ≡ ok_or shape Malformed → shape ≡ None → answer ≡ Err Malformed
malformed_answer {answer = answer} {shape} {cause} h e n =
    let told = err_from_is_err_and answer h in
    let known : Err cause ≡ ok_or None Malformed = rw n at e in
    let is : cause ≡ Malformed = cc in
    told.1 ∙ ap Err (told.2 ∙ is)

-- the answers before `deciding_on`, for `using`
pub ruleset asks = (refuses_first, malformed_by, keeps_laid, malformed_answer)
