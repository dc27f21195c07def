-- The events of the list.
use Rattle.std.specs.Prelude.{ℕ, cond, List, eqb, replicate, Option, None, Some}
use Rattle.std.specs.Option.{option_copied}
use Rattle.text.specs.Ascii.{ascii}
use Rattle.events.specs.Event as happens
use Rattle.reorder.specs.declared.listing.Event.{Event}
use Rattle.reorder.specs.declared.listing.Event.TheVariants.{Connected, Disconnected, Ended}

-- the session of an event
unfoldable pub session : Event → ℕ
session (Connected s c name) = s
session (Disconnected s c) = s
session (Ended s) = s

-- the id of its client, none where it has none
unfoldable pub client : Event → Option (List ℕ)
client (Connected s id name) = Some id.now
client (Disconnected s id) = Some id.now
client (Ended s) = None

-- the event of document 01 that is meant
unfoldable pub meant : Event → happens.Event
meant (Connected s id name) = happens.connected s id.now (option_copied name)
meant (Disconnected s id) = happens.disconnected s id.now
meant (Ended s) = happens.ended s

-- an id that is a byte longer than document 01 allows
unfoldable pub long : List ℕ
long = replicate 65 0x78

-- the event of a number, the fifteenth of any other
unfoldable pub listed : ℕ → happens.Event
listed n =
    cond (eqb n 1) (happens.connected 1 (ascii "g1") (Some (ascii "ann")))
    (cond (eqb n 2) (happens.connected 2 (ascii "g2") (Some (ascii "bo")))
    (cond (eqb n 3) (happens.connected 256 (ascii "g1") (Some (ascii "ann")))
    (cond (eqb n 4) (happens.connected 3 (ascii "g3") None)
    (cond (eqb n 5) (happens.connected 4 long (Some (ascii "bo")))
    (cond (eqb n 6) (happens.connected 4 (ascii "g4") (Some (ascii "bo")))
    (cond (eqb n 7) (happens.connected 5 (ascii "g5") (Some (ascii "cy")))
    (cond (eqb n 8) (happens.disconnected 1 (ascii "g1"))
    (cond (eqb n 9) (happens.ended 2)
    (cond (eqb n 10) (happens.disconnected 2 (ascii "g2"))
    (cond (eqb n 11) (happens.connected 1 (ascii "g1") (Some (ascii "bo")))
    (cond (eqb n 12) (happens.ended 256)
    (cond (eqb n 13) (happens.disconnected 4 (ascii "g4"))
    (cond (eqb n 14) (happens.disconnected 3 long)
    (happens.ended 4))))))))))))))

-- what is recorded of an event: 0 where it is done, else the number of its cause
unfoldable pub recorded : Option ℕ → ℕ
recorded None = 0
recorded (Some n) = n
