-- For every two events, those of the list among them, `share` is `shares` of the theorem (crates/acl/specs/Demand3.antt) on the events that
-- they mean. Assumes nothing.
use mathlib.Core.Path.{◌≡◌, refl, ap, ◌∙◌}
use mathlib.Core.Bool.{◌||◌}
use lib.Dec.{eqb}
use Rattle.acl.specs.Demand3.{session as session_of, client as client_of, same_client, shares}
use Rattle.reorder.specs.declared.listing.Event.{Event}
use Rattle.reorder.specs.declared.listing.Event.TheVariants.{Connected, Disconnected, Ended}
use Rattle.reorder.specs.Listing.{session, client, meant}
use Rattle.reorder.specs.Running.{share}

session_meant : (e : Event) → session e ≡ session_of (meant e)
unfolding session session_of meant
session_meant (Connected s id name) = refl
session_meant (Disconnected s id) = refl
session_meant (Ended s) = refl

client_meant : (e : Event) → client e ≡ client_of (meant e)
unfolding client client_of meant
client_meant (Connected s id name) = refl
client_meant (Disconnected s id) = refl
client_meant (Ended s) = refl

pub listed_shares : (d e : Event) → share d e ≡ shares (meant d) (meant e)
unfolding share shares
listed_shares d e = λ i. eqb (session_meant d i) (session_meant e i) || same_client (client_meant d i) (client_meant e i)
