-- From the parts of its number an answer of a question, or of an event, is read back, so that no two have the same. Assumes nothing.
use Prim.Native.Nat.{ℕ, zero, suc}
use mathlib.Core.Path.{◌≡◌, refl, ap, ◌∙◌}
use mathlib.Core.Bool.{Bool, true, false}
use mathlib.Core.List.{List, [], ◌∷◌}
use Rattle.std.specs.Prelude.{Option, None, Some}
use native.Mathlib.Omega.{arith}
use Rattle.rule.specs.Refusals.{first}
use Rattle.store.specs.Store.{View}
use Rattle.questions.specs.Question.{Question, kept, connects, subscribes, publishes, not_authorized, unspecified_error, Reply, refuses, decides}
use Rattle.questions.specs.Decision.{ask}
use Rattle.events.specs.Event.{Event, connected as connects-event, disconnected, ended, argument_causes, store_causes, cause}
use Rattle.mqtt_acl.specs.Answers.{decision_number, packed, event_number}
use Rattle.mqtt_acl.specs.Unpacked.{Parts, parts_by, parts, on_store, store_allows}
use Rattle.mqtt_acl.proofs.AnswerLaws.{Answered, by_number, by_code, connected, subscribed, published, denied, failed, answered}
use Rattle.mqtt_acl.proofs.Reading.{back, number_back, line_back, refusal_back}

-- ---- questions

-- its number's parts are those of the answer
abbrev Back : Reply → Type 0
Back r = (on_store (parts (packed r)) ≡ Some r) × ((parts (packed r)).allows ≡ store_allows r)

told : (r : Reply) {p : Parts} → parts (packed r) ≡ p → on_store p ≡ Some r → p.allows ≡ store_allows r → Back r
told r e reply allow = (ap on_store e ∙ reply, ap (λ (p : Parts). p.allows) e ∙ allow)

answered_back : {r : Reply} → Answered r → Back r
unfolding packed decision_number parts_by on_store store_allows
answered_back (by_number n h) = told (refuses n 0) (refusal_back n 0 h) (λ i. Some (refuses (number_back n 0 h i) (line_back n 0 h i))) refl
answered_back (by_code code h) = told (decides (kept code)) (back 1 code refl refl) refl refl
answered_back (connected rule false h) = told (decides (connects rule false)) (back 2 rule refl refl) refl refl
answered_back (connected rule true h) = told (decides (connects rule true)) (back 3 rule refl refl) refl refl
answered_back (subscribed rule zero h l) = told (decides (subscribes rule 0)) (back 4 rule refl refl) refl refl
answered_back (subscribed rule (suc zero) h l) = told (decides (subscribes rule 1)) (back 5 rule refl refl) refl refl
answered_back (subscribed rule (suc (suc zero)) h l) = told (decides (subscribes rule 2)) (back 6 rule refl refl) refl refl
answered_back (subscribed rule (suc (suc (suc n))) h l) = absurd (omega arith)
answered_back (published rule h) = told (decides (publishes rule)) (back 7 rule refl refl) refl refl
answered_back (denied rule None h) = told (decides (not_authorized rule None)) (back 8 rule refl refl) refl refl
answered_back (denied rule (Some false) h) = told (decides (not_authorized rule (Some false))) (back 9 rule refl refl) refl refl
answered_back (denied rule (Some true) h) = told (decides (not_authorized rule (Some true))) (back 10 rule refl refl) refl refl
answered_back (failed rule h) = told (decides (unspecified_error rule)) (back 11 rule refl refl) refl refl

-- every answer of a question, on any store, is what its number says
pub read_back : (q : Question) (s : List ℕ) → on_store (parts (packed (ask q s))) ≡ Some (ask q s)
read_back q s = (answered_back (answered q s)).0

-- and says that it allows where it does
pub allows_back : (q : Question) (s : List ℕ) → (parts (packed (ask q s))).allows ≡ store_allows (ask q s)
allows_back q s = (answered_back (answered q s)).1

-- ---- events: 0 is none, as no cause has that number

unfoldable pub unpacked_event : ℕ → Option ℕ
unpacked_event zero = None
unpacked_event (suc n) = Some (suc n)

abbrev EventBack : Option ℕ → Type 0
EventBack o = unpacked_event (event_number o) ≡ o

cause_back : (b : Bool) (n : ℕ) (causes : List (Bool × ℕ)) → EventBack (first causes) → EventBack (first ((b, suc n) ∷ causes))
unfolding first event_number unpacked_event
cause_back true n causes h = refl
cause_back false n causes h = h

none_back : EventBack (first [])
unfolding first event_number unpacked_event
none_back = refl

malformed_back : EventBack (first ((true, 3) ∷ []))
malformed_back = cause_back true 2 [] none_back

-- every answer of an event, on any store, is what its number says
pub event_read_back : (e : Event) (o : Option View) → unpacked_event (event_number (cause e o)) ≡ cause e o
unfolding cause argument_causes store_causes
event_read_back (connects-event session id name) None = cause_back _ 0 _ (cause_back _ 1 _ malformed_back)
event_read_back (disconnected session id) None = cause_back _ 0 _ (cause_back _ 1 _ malformed_back)
event_read_back (ended session) None = cause_back _ 1 _ malformed_back
event_read_back (connects-event session id name) (Some v) =
    cause_back _ 0 _ (cause_back _ 1 _ (cause_back _ 6 _ (cause_back _ 7 _ (cause_back _ 8 _ (cause_back _ 9 _ none_back)))))
event_read_back (disconnected session id) (Some v) = cause_back _ 0 _ (cause_back _ 1 _ none_back)
event_read_back (ended session) (Some v) = cause_back _ 1 _ none_back
