-- Document 01's example of the program `decide` (Marked examples): two rules, and six lines with their answers, as a claim over the
-- definitions that the contracts of open, the events and the questions cite.
use Rattle.std.specs.Prelude.{ℕ, ◌≡◌, true, List, [], ◌∷◌, ◌++◌, length, Option, None, Some}
use Rattle.text.specs.Ascii.{ascii}
use Rattle.json_text.specs.Lines.{lf}
use Rattle.rule.specs.Identity.{Client}
use Rattle.store.specs.declared.Counts.{Counts}
use Rattle.store.specs.Opening.{after_open}
use Rattle.store.specs.View.{view}
use Rattle.questions.specs.Question.{Question, connect, publish, publishes, not_authorized, Reply, decides}
use Rattle.questions.specs.Decision.{ask}
use Rattle.events.specs.Event.{Event, connected, disconnected, cause, after}

-- "R 2,048, F 64, E 32, N 64: 47,888 bytes"
abbrev pub counts : Counts
counts = record { bytes = 2048; filters = 64; eqs = 32; notes = 64 }

abbrev pub rules : List ℕ
rules =
    ascii "[\"allow\",{\"user\":\"bo\"},\"publish\",[\"bench/%c/set\"]]" ++ (lf ∷ (ascii "[\"deny\",\"all\",\"pubsub\"]" ++ (lf ∷ [])))

-- a line is an event or a question
pub data Line : Type 0 where
  event : Event → Line
  question : Question → Line

-- what is answered: the number of an event's refusal, none where it is done; a question's reply
pub data Answer : Type 0 where
  says : Option ℕ → Answer
  replies : Reply → Answer

-- each line gets the store as the one before it left it; a question leaves it as it is
unfoldable pub answers : List Line → List ℕ → List Answer
answers [] s = []
answers (event e ∷ lines) s = says (cause e (view s)) ∷ answers lines (after e s)
answers (question q ∷ lines) s = replies (ask q s) ∷ answers lines s

-- id "g7", name "bo", no password, no address, protocol 4
abbrev pub bo : Client
bo = record { id = ascii "g7"; name = Some (ascii "bo"); password = None; address = None; protocol = Some 4 }

-- "disconnect flag true"
abbrev pub publishing : Line
publishing = question (publish 0 bo (ascii "bench/g7/set") true)

-- each line of the example with its answer: 1 refuse 0, 2 drop 2, 3 done 0, 4 allow 1, 5 done 0, 6 drop 2
abbrev pub asked : List Line
asked =
    question (connect 0 bo)
    ∷ publishing
    ∷ event (connected 1 (ascii "g7") (Some (ascii "bo")))
    ∷ publishing
    ∷ event (disconnected 1 (ascii "g7"))
    ∷ publishing
    ∷ []

abbrev pub answered : List Answer
answered =
    replies (decides (not_authorized 0 None))
    ∷ replies (decides (not_authorized 2 (Some true)))
    ∷ says None
    ∷ replies (decides (publishes 1))
    ∷ says None
    ∷ replies (decides (not_authorized 2 (Some true)))
    ∷ []

-- whatever the 47,888 bytes held before they were opened
abbrev pub DecideExample : Type 0
DecideExample = (s : List ℕ) → length s ≡ 47888 → answers asked (after_open counts rules s) ≡ answered
