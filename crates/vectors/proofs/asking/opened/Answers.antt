-- The rules in a buffer: where they fit, their text is its front. Assumes nothing.
use Rattle.std.specs.Prelude.{Option, Some, None}
use Rattle.std.proofs.Common.{◌≡◌, ℕ, ◌≤◌, List, length, take, replicate, sym, ap, ◌∙◌, arith, le-leb, length-take-le}
use lib.ListN.{length-replicate}
use borrow.Author.Tests.{lt-leb}
use Rattle.text.specs.Text.{fitted, written}
use Rattle.text.proofs.Laws.{length_told, too_long_told, written-take}
use Rattle.rule.proofs.DecodeLaws.{written-length}
use Rattle.store.specs.Opening.{after_open}
use Rattle.mqtt_acl.specs.Rules.{where_true}
use Rattle.vectors.specs.Asking.{counts, rule_text, fits, opened}
use Rattle.vectors.proofs.asking.opened.Goals as goal

module _ {answer : Option ℕ} (rules : List ℕ) (told : answer ≡ fitted (rule_text rules) 512) where
  rules_over : answer ≡ None → None ≡ opened rules
  unfolding fits opened where_true
  rules_over e = rw (lt-leb (length (rule_text rules)) 512 (too_long_told (rule_text rules) 512 told e))

  module _ {n : ℕ} (after : List ℕ) (w : after ≡ written (rule_text rules) (replicate 512 0)) (e : answer ≡ Some n) where
    rules_room : n ≤ length after
    rules_room = omega (arith, ap length w, written-length (rule_text rules) (replicate 512 0), length-replicate {A = ℕ} 512 0, (length_told (rule_text rules) 512 told e).1)

    rules_front : take n after ≡ rule_text rules
    rules_front =
        let l = length_told (rule_text rules) 512 told e in
        (λ i. take (l.0 i) (w i)) ∙ written-take (rule_text rules) (replicate 512 0) (omega (arith, l.0, l.1, length-replicate {A = ℕ} 512 0))

    rules-opened : {left : List ℕ} → left ≡ after_open counts (take n after) (replicate 1374 0) → Some left ≡ opened rules
    unfolding fits opened where_true
    rules-opened q =
        let l = length_told (rule_text rules) 512 told e in
        let fine = le-leb (length (rule_text rules)) 512 (omega (arith, l.0, l.1)) in
        rw fine (ap Some (q ∙ ap (λ t. after_open counts t (replicate 1374 0)) rules_front))

pub returns-in_err-n : goal.returns-in_err-n
unfolding rule_text
returns-in_err-n c =
    c.from_residual.ensures ∙ rules_over c.args.rules.now c.replace.ensures.value c.in_err-n.was

pub slice_bounds-lines-end : goal.slice_bounds-lines-end
unfolding rule_text
slice_bounds-lines-end c =
    rules_room c.args.rules.now c.replace.ensures.value _ c.replace.ensures.buffer_after c.in_ok-n.was

pub slice_bounds-mqtt_acl_open-end-2 : goal.slice_bounds-mqtt_acl_open-end-2
unfolding rule_text
slice_bounds-mqtt_acl_open-end-2 c =
    sym (length-take-le _ _ (rules_room c.args.rules.now c.replace.ensures.value _ c.replace.ensures.buffer_after c.in_ok-n.was))

pub returns : goal.returns
unfolding rule_text
returns c =
    rules-opened c.args.rules.now c.replace.ensures.value _ c.replace.ensures.buffer_after c.in_ok-n.was c.mqtt_acl_open.ensures.store_after
