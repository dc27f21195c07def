-- The calls of lines that ask, by who asks and the topic. Assumes nothing.
use Prim.Native.Nat.{ℕ}
use mathlib.Core.Path.{◌≡◌, refl, sym, ap, ◌∙◌}
use mathlib.Core.Bool.{Bool, true, false, not, cond}
use mathlib.Core.List.{List}
use Rattle.std.specs.Prelude.{Option, None, Some}
use Rattle.std.specs.Option.{option_map, is_some, unwrap_or}
use Rattle.text.specs.Maybe.{bind}
use Rattle.json_text.specs.Json.{Elements}
use Rattle.rule.specs.Rule.{nth}
use Rattle.rule.specs.Places.{place_of}
use Rattle.rule.specs.Identity.{Client}
use Rattle.questions.specs.Question as ask
use Rattle.questions.specs.Decision as decision
use Rattle.lines.specs.Call as call
use Rattle.lines.specs.Call.{asks, as_string, is_given, having, asker_in, connect_in, subscribe_in, publish_in}
use Rattle.lines.specs.Said.{malformed, reply_said, call_said}
use Rattle.lines.specs.declared.Asker.{Asker}
use Rattle.lines.specs.declared.Said.{Said}
use Rattle.lines.proofs.ElementLaws.{having_more, having_all, having_read, having-none, bind_none}
use Rattle.lines.proofs.AskerLaws.{client_of, Asks, asker_short}

-- ---- a line without a call

pub no_call : {call : Option call.Call} (s : List ℕ) {r : Option Said} → r ≡ None → call ≡ None → unwrap_or r malformed ≡ call_said call s
unfolding call_said
no_call s r q = ap (λ (r : Option Said). unwrap_or r malformed) r ∙ sym (ap (λ (o : Option call.Call). call_said o s) q)

-- ---- a connect line

pub connect_more : (es : Elements) → is_some (place_of (nth 7 es)) ≡ true → connect_in es ≡ None
unfolding connect_in
connect_more es q = having_more 7 es _ q

pub connect_bad : (es : Elements) → asker_in es ≡ None → connect_in es ≡ None
unfolding connect_in bind
connect_bad es q = simp (q, having-none {A = call.Call} 7 es)

module _ (es : Elements) {a : Asker} {ids names passwords addresses : List ℕ} (asked : Asks es a ids names passwords addresses) where
  pub connect_any : {none : Bool} → is_some a.protocol ≡ not none → none ≡ true → connect_in es ≡ None
  unfolding connect_in bind is_given
  connect_any e q = simp (asked.is, not_given a.protocol (e ∙ ap not q), having-none {A = call.Call} 7 es)
    where
      not_given : (p : Option ℕ) → is_some p ≡ false → is_given p ≡ false
      not_given None q = refl
      not_given (Some n) q = q

  pub connect_asks : {client : Client} {none : Bool} (s : List ℕ) → is_some (place_of (nth 7 es)) ≡ false → is_some a.protocol ≡ not none → none ≡ false
      → client ≡ client_of a ids names passwords addresses
      → reply_said (decision.ask (ask.connect a.earlier client) s) ≡ call_said (connect_in es) s
  unfolding connect_in call_said bind is_given
  connect_asks {client} s w k q e =
      rw (
        e,
        having_all 6 es (bind (asker_in es) (λ a. cond (is_given a.client.protocol) (Some (asks (ask.connect a.earlier a.client))) None)) w
            (λ k. rw (asker_short es k)),
        asked.is,
        given a.protocol (k ∙ ap not q),
      )
    where
      given : (p : Option ℕ) → is_some p ≡ true → is_given p ≡ true
      given None q = q
      given (Some n) q = refl

-- ---- a line that asks on a topic, publish or subscribe

unfoldable topic_call : Bool → call.Asker → List ℕ → call.Call
topic_call publishing a topic =
    asks (cond publishing (ask.publish a.earlier a.client topic true) (ask.subscribe a.earlier a.client topic 0))

module _ (publishing : Bool) (es : Elements) where
  abbrev pub topic_in : Option call.Call
  topic_in = cond publishing (publish_in es) (subscribe_in es)

  calls : topic_in ≡ having 8 es (bind (asker_in es) (λ a. option_map (topic_call publishing a) (bind (nth 7 es) as_string)))
  unfolding topic_call publish_in subscribe_in
  calls = by publishing
    where
      by : (b : Bool) → cond b (publish_in es) (subscribe_in es) ≡ having 8 es (bind (asker_in es) (λ a. option_map (topic_call b a) (bind (nth 7 es) as_string)))
      by true = refl
      by false = refl

  pub topic_more : is_some (place_of (nth 8 es)) ≡ true → topic_in ≡ None
  topic_more q = calls ∙ having_more 8 es _ q

  pub topic_unasked : asker_in es ≡ None → topic_in ≡ None
  unfolding bind
  topic_unasked q = calls ∙ simp (q, having-none {A = call.Call} 8 es)

  pub topic_absent : bind (nth 7 es) as_string ≡ None → topic_in ≡ None
  topic_absent q = calls ∙ simp (q, bind_none, having-none {A = call.Call} 8 es)

  pub topic_asks : {a : Asker} {ids names passwords addresses topic : List ℕ} {client : Client} (s : List ℕ) → is_some (place_of (nth 8 es)) ≡ false
      → Asks es a ids names passwords addresses → bind (nth 7 es) as_string ≡ Some topic → client ≡ client_of a ids names passwords addresses
      → reply_said (decision.ask (cond publishing (ask.publish a.earlier client topic true) (ask.subscribe a.earlier client topic 0)) s) ≡ call_said topic_in s
  unfolding bind topic_call call_said
  topic_asks {a} {ids} {names} {passwords} {addresses} {topic} {client} s w asked q e =
      let is : topic_in ≡ Some (asks (cond publishing (ask.publish a.earlier client topic true) (ask.subscribe a.earlier client topic 0))) =
      calls ∙ (having_read 7 es _ as_string w q ∙ simp (asked.is, q, e)) in
      sym (ap (λ (o : Option call.Call). call_said o s) is)
