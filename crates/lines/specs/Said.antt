-- What is said of a line, and what it does to the store: document 01, Marked examples (Output).
use Rattle.std.specs.Prelude.{ℕ, Bool, cond, List, Option, None, Some}
use Rattle.store.specs.View.{view}
use Rattle.events.specs.Event.{cause, after}
use Rattle.questions.specs.Question.{Decision, kept, connects, subscribes, publishes, not_authorized, unspecified_error, Reply, refuses, decides}
use Rattle.questions.specs.Decision.{ask}
use Rattle.lines.specs.Call.{Call, happens, asks, call_of}
use Rattle.lines.specs.declared.Word.{Word}
use Rattle.lines.specs.declared.Word.TheVariants.{Done, Kept, Allow, Super, Refuse, Drop, Error}
use Rattle.lines.specs.declared.Said.{Said}

-- a word with the deciding rule's number, or with that of an error
unfoldable pub says : Word → ℕ → Said
says word n = record { word = word; number = n; line = None }

-- an error with its number and its line: "Refused rules print only `0 error`, the number and the line, 0 if none"
unfoldable pub refused_at : ℕ → ℕ → Said
refused_at number line = record { word = Error; number = number; line = Some line }

-- "A malformed event line .. is error 5"
unfoldable pub malformed : Said
malformed = says Error 5

-- "`super` is a connect allowed with the flag"
unfoldable pub connected : ℕ → Bool → Said
connected rule superuser = says (cond superuser Super Allow) rule

-- "`drop` a refused publish with the disconnect flag"
unfoldable pub refused_with : ℕ → Option Bool → Said
refused_with rule None = says Refuse rule
refused_with rule (Some disconnect) = says (cond disconnect Drop Refuse) rule

-- "word (done, kept, allow, super, refuse, drop, error), deciding rule from 1, or 0; after error the number"
unfoldable pub decision_said : Decision → Said
decision_said (kept code) = says Kept 0
decision_said (connects rule superuser) = connected rule superuser
decision_said (subscribes rule qos) = says Allow rule
decision_said (publishes rule) = says Allow rule
decision_said (not_authorized rule disconnect) = refused_with rule disconnect
decision_said (unspecified_error rule) = says Refuse rule

unfoldable pub reply_said : Reply → Said
reply_said (refuses number place) = says Error number
reply_said (decides d) = decision_said d

unfoldable pub cause_said : Option ℕ → Said
cause_said None = says Done 0
cause_said (Some number) = says Error number

unfoldable pub call_said : Option Call → List ℕ → Said
call_said None s = malformed
call_said (Some (happens e)) s = cause_said (cause e (view s))
call_said (Some (asks q)) s = reply_said (ask q s)

-- only an event changes the store
unfoldable pub call_done : Option Call → List ℕ → List ℕ
call_done None s = s
call_done (Some (happens e)) s = after e s
call_done (Some (asks q)) s = s

-- what is said of a line, and the store after it
unfoldable pub line_said : List ℕ → List ℕ → Said
line_said line s = call_said (call_of line) s

unfoldable pub line_done : List ℕ → List ℕ → List ℕ
line_done line s = call_done (call_of line) s
