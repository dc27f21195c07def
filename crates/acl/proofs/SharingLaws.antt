-- Events that share neither a client id nor a session number touch no row in common. Assumes nothing.
use Prim.Native.Nat.{ℕ}
use mathlib.Core.Path.{◌≡◌, refl, sym, ap₂, ◌∙◌}
use mathlib.Core.Bool.{true, false, ◌||◌, true≢false}
use mathlib.Core.List.{List}
use Rattle.std.specs.Prelude.{Option, None, Some}
use borrow.Author.Tests.{eqb-true, eqb-false, eq-eqb, ne_eqb}
use lib.Dec.{eqb}
use Rattle.text.proofs.Laws.{both_true, or_split, same_true, same_sym}
use Rattle.store.specs.Store.{FilterRow, NoteRow}
use Rattle.events.specs.Event.{Event, connected, disconnected, ended}
use Rattle.events.proofs.EventLaws.{noted, owned, Apart}
use Rattle.acl.specs.Demand3.{session, client, same_client, shares}

-- sharing goes both ways, and a client that is one of two which differ is not the other
same_client_sym : (a b : Option (List ℕ)) → same_client a b ≡ same_client b a
unfolding same_client
same_client_sym None None = refl
same_client_sym None (Some y) = refl
same_client_sym (Some x) None = refl
same_client_sym (Some x) (Some y) = same_sym x y

pub shares_sym : (e f : Event) → shares e f ≡ shares f e
unfolding shares
shares_sym e f = ap₂ ◌||◌ (both_true _ _ (flip (session e) (session f)) (flip (session f) (session e))) (same_client_sym (client e) (client f))
  where
    flip : (a b : ℕ) → eqb a b ≡ true → eqb b a ≡ true
    flip a b h = eq-eqb b a (sym (eqb-true a b h))

neither : (o : List ℕ) (a b : Option (List ℕ)) → same_client a b ≡ false → same_client (Some o) b ≡ true → same_client (Some o) a ≡ false
unfolding same_client
neither o None b k h = refl
neither o (Some x) None k h = absurd (true≢false (sym h))
neither o (Some x) (Some y) k h = rw (same_true o y h) (same_sym y x ∙ k)

-- an event's notes and filter rows, by its session number and its client
noted_session : (e : Event) (n : NoteRow) → noted e n ≡ eqb n.session (session e)
unfolding noted session
noted_session (connected m id name) n = refl
noted_session (disconnected m id) n = refl
noted_session (ended m) n = refl

owned_client : (e : Event) (r : FilterRow) → owned e r ≡ same_client (Some r.owner) (client e)
unfolding owned client same_client
owned_client (connected m id name) r = refl
owned_client (disconnected m id) r = refl
owned_client (ended m) r = refl

pub shares-apart : (e f : Event) → shares e f ≡ false → Apart e f
unfolding shares
shares-apart e f h =
    let s = or_split (eqb (session e) (session f)) _ h in
    record {
      notes = λ n k.
          let q = eqb-true _ _ (sym (noted_session f n) ∙ k) in
          noted_session e n ∙ ne_eqb _ _ (λ p. eqb-false (session e) (session f) s.0 (sym p ∙ q));
      filters = λ r k. owned_client e r ∙ neither r.owner (client e) (client f) s.1 (sym (owned_client f r) ∙ k);
    }
