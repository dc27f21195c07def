-- Each word, byte by byte, names its question. Assumes nothing.
use Rattle.std.specs.Prelude.{Some}
use Rattle.std.proofs.Common.{◌≡◌, ℕ, List, sym, ap, ◌∙◌, arith, rules}
use Rattle.std.proofs.lemmas.Slice.Eq.{text_from_reads}
use Rattle.text.specs.Ascii.{ascii}
use Rattle.text.specs.Text.{same}
use Rattle.questions.specs.Question.{Question}
use Rattle.questions.specs.Decision.{ask}
use Rattle.mqtt_acl.specs.Answers.{packed}
use Rattle.vectors.specs.Fields.{rest, field}
use Rattle.vectors.specs.Asking.{opened, connect_of, subscribe_of, publish_of, question_named, store_answer}
use Rattle.vectors.proofs.asking.store_answer.Goals as goal

-- the line by its rules, which open a store, and its question
asked : (line rules word store : List ℕ) (q : Question) {answer : ℕ} → rules ≡ rest 12 line → opened rules ≡ Some store → word ≡ field 1 line
    → question_named line word ≡ Some q → answer ≡ packed (ask q store) → Some answer ≡ store_answer line
unfolding store_answer
asked line rules word store q r o w named a = rw (← r, o, ← w, named) (ap Some a)

pub returns-in-connect : goal.returns-in-connect
unfolding question_named same
returns-in-connect c =
    let word : c.field.result.now ≡ ascii "connect" = text_from_reads _ (ascii "connect") (omega arith) (search rules) in
    asked c.args.line.now _ _ _ (connect_of _) c.rest.ensures (sym c.opened.ensures ∙ c.in_ok-store.was) c.field.ensures (ap (question_named _) word) c.connect_answer.ensures

pub returns-in-subscribe : goal.returns-in-subscribe
unfolding question_named same
returns-in-subscribe c =
    let word : c.field.result.now ≡ ascii "subscribe" = text_from_reads _ (ascii "subscribe") (omega arith) (search rules) in
    asked c.args.line.now _ _ _ (subscribe_of _) c.rest.ensures (sym c.opened.ensures ∙ c.in_ok-store.was) c.field.ensures (ap (question_named _) word) c.subscribe_answer.ensures

pub returns-in-publish : goal.returns-in-publish
unfolding question_named same
returns-in-publish c =
    let word : c.field.result.now ≡ ascii "publish" = text_from_reads _ (ascii "publish") (omega arith) (search rules) in
    asked c.args.line.now _ _ _ (publish_of _) c.rest.ensures (sym c.opened.ensures ∙ c.in_ok-store.was) c.field.ensures (ap (question_named _) word) c.publish_answer.ensures
