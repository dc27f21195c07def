-- Laws of the events of a line: the call by what is read of its elements, and what is said of it. Assumes nothing.
use Prim.Native.Nat.{ℕ}
use mathlib.Core.Path.{◌≡◌, sym, ap, ◌∙◌}
use mathlib.Core.Bool.{true, false}
use mathlib.Core.List.{List}
use Rattle.std.specs.Prelude.{Option, None, Some}
use Rattle.std.specs.Option.{is_some, unwrap_or}
use Rattle.text.specs.Maybe.{bind}
use Rattle.json_text.specs.Json.{Elements}
use Rattle.rule.specs.Rule.{nth, as_number}
use Rattle.rule.specs.Places.{place_of}
use Rattle.store.specs.View.{view}
use Rattle.events.specs.Event as event
use Rattle.events.specs.Event.{Event, cause, after}
use Rattle.lines.specs.Call.{Call, happens, as_string, or_null, connected_in, disconnected_in, ended_in}
use Rattle.lines.specs.Said.{malformed, cause_said, call_said, call_done}
use Rattle.lines.specs.declared.Said.{Said}
use Rattle.lines.proofs.ElementLaws.{having_more, having_read, having-none, bind_none}

-- ---- what is said

module _ (s : List ℕ) {call : Option Call} where
  pub no_call : {r : Option Said} → r ≡ None → call ≡ None → (unwrap_or r malformed ≡ call_said call s) × (s ≡ call_done call s)
  unfolding call_said call_done
  no_call r none_is =
      (ap (λ (r : Option Said). unwrap_or r malformed) r ∙ sym (ap (λ (o : Option Call). call_said o s) none_is), sym (ap (λ (o : Option Call). call_done o s) none_is))

  pub event_call : (x : Event) {caused : Option ℕ} {r : Said} {last : List ℕ} → r ≡ cause_said caused → caused ≡ cause x (view s) → last ≡ after x s
      → call ≡ Some (happens x) → (r ≡ call_said call s) × (last ≡ call_done call s)
  unfolding call_said call_done
  event_call x r p l is = (r ∙ (ap cause_said p ∙ sym (ap (λ (o : Option Call). call_said o s) is)), l ∙ sym (ap (λ (o : Option Call). call_done o s) is))

-- ---- the calls, by what is read

module _ (es : Elements) where
  -- a session's end
  pub ended_more : is_some (place_of (nth 2 es)) ≡ true → ended_in es ≡ None
  unfolding ended_in
  ended_more h = having_more 2 es _ h

  pub ended_bad : bind (nth 1 es) as_number ≡ None → ended_in es ≡ None
  unfolding ended_in
  ended_bad h = simp (h, having-none {A = Call} 2 es)

  pub ended_is : {session : ℕ} → is_some (place_of (nth 2 es)) ≡ false → bind (nth 1 es) as_number ≡ Some session
      → ended_in es ≡ Some (happens (event.ended session))
  unfolding ended_in
  ended_is h k = having_read 1 es _ as_number h k ∙ simp k

  -- a client that has disconnected
  pub disconnected_more : is_some (place_of (nth 3 es)) ≡ true → disconnected_in es ≡ None
  unfolding disconnected_in
  disconnected_more h = having_more 3 es _ h

  pub disconnected_bad : bind (nth 1 es) as_number ≡ None → disconnected_in es ≡ None
  unfolding disconnected_in bind
  disconnected_bad h = simp (h, having-none {A = Call} 3 es)

  pub disconnected_no_id : bind (nth 2 es) as_string ≡ None → disconnected_in es ≡ None
  unfolding disconnected_in
  disconnected_no_id h = simp (h, bind_none, having-none {A = Call} 3 es)

  pub disconnected_is : {session : ℕ} {id : List ℕ} → is_some (place_of (nth 3 es)) ≡ false → bind (nth 1 es) as_number ≡ Some session
      → bind (nth 2 es) as_string ≡ Some id → disconnected_in es ≡ Some (happens (event.disconnected session id))
  unfolding disconnected_in bind
  disconnected_is h k i = having_read 2 es _ as_string h i ∙ simp (k, i)

  -- a client that has connected
  pub connected_more : is_some (place_of (nth 4 es)) ≡ true → connected_in es ≡ None
  unfolding connected_in
  connected_more h = having_more 4 es _ h

  pub connected_bad : bind (nth 1 es) as_number ≡ None → connected_in es ≡ None
  unfolding connected_in bind
  connected_bad h = simp (h, having-none {A = Call} 4 es)

  pub connected_no_id : bind (nth 2 es) as_string ≡ None → connected_in es ≡ None
  unfolding connected_in bind
  connected_no_id h = simp (h, bind_none, having-none {A = Call} 4 es)

  pub connected_no_name : bind (nth 3 es) (or_null as_string) ≡ None → connected_in es ≡ None
  unfolding connected_in
  connected_no_name h = simp (h, bind_none, having-none {A = Call} 4 es)

  pub connected_is : {session : ℕ} {id : List ℕ} {name : Option (List ℕ)} → is_some (place_of (nth 4 es)) ≡ false
      → bind (nth 1 es) as_number ≡ Some session → bind (nth 2 es) as_string ≡ Some id → bind (nth 3 es) (or_null as_string) ≡ Some name
      → connected_in es ≡ Some (happens (event.connected session id name))
  unfolding connected_in bind
  connected_is h k i n = having_read 3 es _ (or_null as_string) h n ∙ simp (k, i, n)
