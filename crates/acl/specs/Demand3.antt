-- Demand 3, and document 01, "How is 3 read?": what a reader has to believe of the theorem on lists of events. Events, their causes and what
-- they do stand in the events crate (Event.antt), questions in the questions crate (Decision.antt), what a store means in the store crate
-- (View.antt): the contracts of the six functions cite the same definitions.
use Rattle.std.specs.Prelude.{ℕ, ◌<◌, ◌≡◌, Bool, true, false, ◌||◌, cond, eqb, length, Option, None, Some}
use mathlib.Core.List.{List, [], ◌∷◌, Perm}
use Rattle.std.proofs.Math.ListN.{get_elem?}
use Rattle.std.proofs.Math.Option.{some}
use Rattle.text.specs.Text.{same}
use Rattle.store.specs.Store.{View}
use Rattle.store.specs.Layout.{outside_rows}
use Rattle.store.specs.View.{view}
use Rattle.questions.specs.Question.{Question}
use Rattle.questions.specs.Decision.{ask_view, ask}
use Rattle.events.specs.Event.{Event, connected, disconnected, ended, effect, cause, given, after, refused}

-- "each event getting the store as the one before it left it"
unfoldable pub run : List Event → List ℕ → List ℕ
run [] s = s
run (e ∷ es) s = run es (after e s)

-- an event of a run, and whether it was refused
abbrev pub Outcome : Type 0
Outcome = Event × Bool

unfoldable pub outcomes : List Event → List ℕ → List Outcome
outcomes [] s = []
outcomes (e ∷ es) s = (e, refused e s) ∷ outcomes es (after e s)

-- the plain machine: a view, or none for a store not as laid out. "An event is refused .. exactly if it has a cause .., and then it does
-- nothing; every other does what Events says"
unfoldable pub plain_step : Event → Option View → Option View
plain_step e None = None
plain_step e (Some v) = cond (given (cause e (Some v))) (Some v) (Some (effect e v))

unfoldable pub plain_run : List Event → Option View → Option View
plain_run [] o = o
plain_run (e ∷ es) o = plain_run es (plain_step e o)

-- each event of the plain machine's run, and whether it has a cause on the view that it finds
unfoldable pub plain_outcomes : List Event → Option View → List Outcome
plain_outcomes [] o = []
plain_outcomes (e ∷ es) o = (e, given (cause e o)) ∷ plain_outcomes es (plain_step e o)

-- the number and the client id of an event; "a session end has its number alone"
unfoldable pub session : Event → ℕ
session (connected n id name) = n
session (disconnected n id) = n
session (ended n) = n

unfoldable pub client : Event → Option (List ℕ)
client (connected n id name) = Some id
client (disconnected n id) = Some id
client (ended n) = None

-- "Client ids are shared if equal in bytes"
unfoldable pub same_client : Option (List ℕ) → Option (List ℕ) → Bool
same_client None o = false
same_client (Some id) None = false
same_client (Some id) (Some id₁) = same id id₁

-- do the two events share a client id or a session number?
unfoldable pub shares : Event → Event → Bool
shares e f = eqb (session e) (session f) || same_client (client e) (client f)

-- a reordering, by positions: "Each event has one counterpart"; it is the same event, refused in both lists or in neither, and "events
-- sharing a client id or a session number keep their order"
pub record Rearranged (xs ys : List Outcome) : Type 0 where
  pub there : ℕ → ℕ
  pub back : ℕ → ℕ
  pub there_back : (i : ℕ) → i < length xs → back (there i) ≡ i
  pub back_there : (j : ℕ) → j < length ys → there (back j) ≡ j
  pub there_in : (i : ℕ) → i < length xs → there i < length ys
  pub back_in : (j : ℕ) → j < length ys → back j < length xs
  pub counterpart : (i : ℕ) → i < length xs → get_elem? ys (there i) ≡ get_elem? xs i
  pub in_order :
      (i j : ℕ) (x y : Outcome) →
      get_elem? xs i ≡ some x →
      get_elem? xs j ≡ some y →
      shares x.0 y.0 ≡ true →
      i < j →
      there i < there j

-- the views agree but for the sequence of rows
pub record Permuted (v w : View) : Type 0 where
  pub counts : v.counts ≡ w.counts
  pub text : v.text ≡ w.text
  pub filters : Perm v.filters w.filters
  pub eqs : Perm v.eqs w.eqs
  pub notes : Perm v.notes w.notes

-- "each table's used rows, whole, are the same in both; all other bytes are equal; in a store not as laid out, every byte is"
pub data SameRows (s t : List ℕ) : Type 0 where
  malformed : view s ≡ None → s ≡ t → SameRows s t
  laid_out : (v w : View) → view s ≡ Some v → view t ≡ Some w → Permuted v w → outside_rows s ≡ outside_rows t → SameRows s t

-- what demand 3 says of two runs from equal stores, of which `s` stands for both: "both stores afterwards hold the same rows .. with
-- everything else alike byte for byte, and they give every later question the same answer", the plain machine's, which "begins with the
-- starting store and takes the list's events alone, in order"; and "An event is refused, there and in the code, exactly if it has a cause"
pub record Agree (s : List ℕ) (es fs : List Event) : Type 0 where
  pub rows : SameRows (run es s) (run fs s)
  pub alike : (q : Question) → ask q (run es s) ≡ ask q (run fs s)
  pub refusals : outcomes es s ≡ plain_outcomes es (view s)
  pub machine : view (run es s) ≡ plain_run es (view s)
  pub plain : (q : Question) → ask q (run es s) ≡ ask_view q (plain_run es (view s))

-- demand 3, of every store, whatever it holds, and every list of events, refused ones among them: "a single claim about the list"
abbrev pub Demand3 : Type 0
Demand3 = (s : List ℕ) (es fs : List Event) → Rearranged (outcomes es s) (outcomes fs s) → Agree s es fs
