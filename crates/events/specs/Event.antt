-- Events on a store: document 01, Events and Refusals by operation.
use Rattle.std.specs.Prelude.{ℕ, Bool, true, false, ◌&&◌, ◌||◌, cond, List, [], ◌∷◌, ◌++◌, map, eqb, ltb, length, Option, None, Some, Result, Ok, Err}
use Rattle.text.specs.Text.{same}
use Rattle.topic.specs.Topic.{valid_filter, tree_match}
use Rattle.table.specs.Table.{some_row, keep, Change, adds, drops, nothing, change}
use Rattle.rule.specs.Limits.{text_limit, id_limit}
use Rattle.rule.specs.Refusals.{number, first}
use Rattle.rule.specs.RuleText.{Filled, filled, of_kind}
use Rattle.store.specs.Store.{session_limit, over, FilterRow, EqRow, NoteRow, View, same_filter, same_eq, same_note}
use Rattle.store.specs.Layout.{layout}
use Rattle.store.specs.View.{view}
use Rattle.rule.specs.declared.Refusal.{Refusal}

-- a session number and a client id, with the optional user name; "`ended` has the session alone"
pub data Event : Type 0 where
  connected : ℕ → List ℕ → Option (List ℕ) → Event
  disconnected : ℕ → List ℕ → Event
  ended : ℕ → Event

unfoldable pub over_name : Option (List ℕ) → Bool
over_name None = false
over_name (Some name) = over id_limit name

-- "1 client id or name over 64 bytes. 2 session over 255": what is seen of the arguments alone
unfoldable pub argument_causes : Event → List (Bool × ℕ)
argument_causes (connected session id name) = (over id_limit id || over_name name, 1) ∷ (ltb session_limit session, 2) ∷ []
argument_causes (disconnected session id) = (over id_limit id, 1) ∷ (ltb session_limit session, 2) ∷ []
argument_causes (ended session) = (ltb session_limit session, 2) ∷ []

-- "in rule and template order": the filled filter templates, and the filled eq templates
unfoldable pub filled_filters : List ℕ → List ℕ → Option (List ℕ) → List Filled
filled_filters text id name = of_kind false (filled text id name)

unfoldable pub filled_eqs : List ℕ → List ℕ → Option (List ℕ) → List Filled
filled_eqs text id name = of_kind true (filled text id name)

-- "A filled filter, if valid, is a filter row owned by the client"
unfoldable pub filter_rows : List ℕ → List ℕ → Option (List ℕ) → List FilterRow
filter_rows text id name =
    map (λ (f : Filled). record { rule = f.rule; text = f.text; owner = id }) (keep (λ f. valid_filter f.text) (filled_filters text id name))

-- "A filled eq is an eq row, without owner, never removed"
unfoldable pub eq_rows : List ℕ → List ℕ → Option (List ℕ) → List EqRow
eq_rows text id name = map (λ (f : Filled). record { rule = f.rule; text = f.text }) (filled_eqs text id name)

-- "valid or not it is a note of the session"
unfoldable pub note_rows : ℕ → List ℕ → List ℕ → Option (List ℕ) → List NoteRow
note_rows session text id name = map (λ (f : Filled). record { session = session; text = f.text }) (filled_filters text id name)

-- a note of the session, whoever left it
unfoldable pub of_session : ℕ → NoteRow → Bool
of_session session n = eqb n.session session

-- "for each note of the session that is a valid filter, the rows owned by this client whose filter T-matches the note go"
unfoldable pub clears : ℕ → List ℕ → NoteRow → Bool
clears session filter n = of_session session n && (valid_filter n.text && tree_match filter n.text)

unfoldable pub cleared : ℕ → List ℕ → List NoteRow → FilterRow → Bool
cleared session id notes r = same r.owner id && some_row (clears session r.text) notes

unfoldable pub filter_change : Event → List ℕ → List NoteRow → Change FilterRow
filter_change (connected session id name) text notes = adds (filter_rows text id name)
filter_change (disconnected session id) text notes = drops (cleared session id notes)
filter_change (ended session) text notes = nothing

unfoldable pub new_eqs : Event → List ℕ → List EqRow
new_eqs (connected session id name) text = eq_rows text id name
new_eqs (disconnected session id) text = []
new_eqs (ended session) text = []

-- "the notes stay. Session end drops its notes"
unfoldable pub note_change : Event → List ℕ → Change NoteRow
note_change (connected session id name) text = adds (note_rows session text id name)
note_change (disconnected session id) text = nothing
note_change (ended session) text = drops (of_session session)

-- what an event does, room or no room; "Present rows aren't added again"
unfoldable pub effect : Event → View → View
effect e v =
    record {
      counts = v.counts;
      text = v.text;
      filters = change same_filter (filter_change e v.text v.notes) v.filters;
      eqs = change same_eq (adds (new_eqs e v.text)) v.eqs;
      notes = change same_note (note_change e v.text) v.notes;
    }

-- "7 a text over 256 after both replacements. 8, 9, 10: new filter, eq, note rows exceed those free"
unfoldable pub store_causes : Event → View → List (Bool × ℕ)
store_causes (connected session id name) v =
    let w = effect (connected session id name) v in
    (some_row (λ (f : Filled). over text_limit f.text) (filled v.text id name), 7)
    ∷ (ltb v.counts.filters (length w.filters), 8)
    ∷ (ltb v.counts.eqs (length w.eqs), 9)
    ∷ (ltb v.counts.notes (length w.notes), 10)
    ∷ []
store_causes (disconnected session id) v = []
store_causes (ended session) v = []

-- an event's first cause, on what the store means; "3 store not as laid out"
unfoldable pub cause : Event → Option View → Option ℕ
cause e None = first (argument_causes e ++ ((true, 3) ∷ []))
cause e (Some v) = first (argument_causes e ++ store_causes e v)

-- is there a cause?
abbrev pub given : Option ℕ → Bool
given None = false
given (Some n) = true

-- the store after an event: "all lent memory is unchanged" where it is refused
unfoldable pub stored : Event → List ℕ → Option View → List ℕ
stored e s None = s
stored e s (Some v) = cond (given (cause e (Some v))) s (layout (effect e v))

unfoldable pub after : Event → List ℕ → List ℕ
after e s = stored e s (view s)

unfoldable pub refused : Event → List ℕ → Bool
refused e s = given (cause e (view s))

-- each answer's number: none where the event is done
unfoldable pub says : Result (Unit {0}) Refusal → Option ℕ
says (Ok tt) = None
says (Err reason) = Some (number reason)
