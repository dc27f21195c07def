-- What is claimed of plain names, of templates and of leaving under a shared session number.
use Rattle.std.specs.Prelude.{ℕ, ◌+◌, ◌≤◌, ◌≡◌, Bool, true, false, ◌&&◌, List, length, Option}
use Rattle.table.specs.Table.{some_row, keep, adds, change}
use Rattle.rule.specs.Fill.{or_nothing, fill}
use Rattle.rule.specs.RuleText.{Filled, rules_of, filled, of_kind}
use Rattle.store.specs.Store.{View, same_filter, same_eq}
use Rattle.events.specs.Event.{connected, disconnected, ended, filled_filters, filter_rows, eq_rows, of_session, effect}
use Rattle.hosting.specs.Hosting.{is_special, no_special, templates_of}

-- plain names leave the bytes `/`, `+` and `#` of a template as they are, in number and in order
abbrev pub PlainFills : Type 0
PlainFills =
    (template id : List ℕ) (name : Option (List ℕ)) → no_special id ≡ true → no_special (or_nothing name) ≡ true →
    keep is_special (fill template id name) ≡ keep is_special template

-- whoever the client is, as many texts are filled as there are templates
abbrev pub FilledOnce : Type 0
FilledOnce = (eq : Bool) (text id : List ℕ) (name : Option (List ℕ)) → length (of_kind eq (filled text id name)) ≡ templates_of eq (rules_of text)

-- a connected event leaves at most a filter row and a note more for each filter template, and an eq row more for each eq template
pub record Adds (v w : View) : Type 0 where
  pub filters : length w.filters ≤ length v.filters + templates_of false (rules_of v.text)
  pub eqs : length w.eqs ≤ length v.eqs + templates_of true (rules_of v.text)
  pub notes : length w.notes ≤ length v.notes + templates_of false (rules_of v.text)

abbrev pub Enough : Type 0
Enough = (v : View) (session : ℕ) (id : List ℕ) (name : Option (List ℕ)) → Adds v (effect (connected session id name) v)

-- the filter rows that a connected gives go by a disconnected right after it, under the same number, whatever the store holds beside them
abbrev pub TakesBack : Type 0
TakesBack =
    (v : View) (session : ℕ) (id : List ℕ) (name : Option (List ℕ)) →
    some_row
    (λ r. some_row (same_filter r) (filter_rows v.text id name))
    (effect (disconnected session id) (effect (connected session id name) v)).filters
    ≡ false

-- leaving under a number of the client's own, which is free again afterwards
unfoldable pub depart : ℕ → List ℕ → View → View
depart own id v = effect (ended own) (effect (disconnected own id) v)

-- coming under a session number that all clients share: the rows are made, the notes go
unfoldable pub enter : ℕ → List ℕ → Option (List ℕ) → View → View
enter shared id name v = effect (ended shared) (effect (connected shared id name) v)

-- leaving under it: the notes are made again, the rows go by them, the notes go
unfoldable pub leave : ℕ → List ℕ → Option (List ℕ) → View → View
leave shared id name v = effect (ended shared) (effect (disconnected shared id) (effect (connected shared id name) v))

-- the session has no notes
abbrev pub Unused : ℕ → View → Type 0
Unused session v = some_row (of_session session) v.notes ≡ false

-- the session's notes are those of the client's filled filters, as tests see them
abbrev pub NotesOf : ℕ → List ℕ → Option (List ℕ) → View → Type 0
NotesOf own id name v =
    (p : List ℕ → Bool) →
    some_row (λ n. of_session own n && p n.text) v.notes ≡ some_row (λ (f : Filled). p f.text) (filled_filters v.text id name)

-- the client's filled eqs are rows already: none is added
abbrev pub EqsThere : List ℕ → Option (List ℕ) → View → Type 0
EqsThere id name v = change same_eq (adds (eq_rows v.text id name)) v.eqs ≡ v.eqs

-- coming under a number without notes makes both so
abbrev pub Entered : Type 0
Entered =
    (v : View) (own : ℕ) (id : List ℕ) (name : Option (List ℕ)) → Unused own v →
    let w = effect (connected own id name) v in
    NotesOf own id name w × EqsThere id name w

-- two stores with the same rules and rows, whatever their notes
pub record SameButNotes (v w : View) : Type 0 where
  pub text : w.text ≡ v.text
  pub filters : w.filters ≡ v.filters
  pub eqs : w.eqs ≡ v.eqs

-- one host gives each client a number of its own, in the store `v`; another has one number for all, in the store `w`. Where a client comes, both
-- stores get the same rows, and the shared number has no notes afterwards, as before
abbrev pub EntersAlike : Type 0
EntersAlike =
    (v w : View) (own shared : ℕ) (id : List ℕ) (name : Option (List ℕ)) → SameButNotes v w → Unused shared w →
    SameButNotes (effect (connected own id name) v) (enter shared id name w) × ((enter shared id name w).notes ≡ w.notes)

-- and where it leaves, they keep the same rows, and its own number has no notes afterwards
abbrev pub LeavesAlike : Type 0
LeavesAlike =
    (v w : View) (own shared : ℕ) (id : List ℕ) (name : Option (List ℕ)) → SameButNotes v w → Unused shared w →
    NotesOf own id name v → EqsThere id name v →
    SameButNotes (depart own id v) (leave shared id name w) × ((leave shared id name w).notes ≡ w.notes) × Unused own (depart own id v)
