-- What stands behind a reference that may be missing, texts that differ in their first byte, and flags. Assumes nothing.
use Rattle.std.specs.Prelude.{Option, Some, None}
use Rattle.std.specs.Option.{option_map, unwrap_or}
use Rattle.std.proofs.Common.{◌≡◌, ℕ, Bool, true, false, List, [], ◌∷◌, get_or, refl, ne_eqb}
use denote.Ref.{Bor}
use Rattle.text.specs.Text.{same}
use Rattle.mqtt_acl.specs.Rules.{flag, yes}

-- the text, or else another
pub now_or : (r : Option (Bor (List ℕ))) (d : Bor (List ℕ)) → (unwrap_or r d).now ≡ unwrap_or (option_map (λ x. x.now) r) d.now
now_or None d = refl
now_or (Some x) d = refl

-- a text that begins with another byte is another
pub same_heads : (s t : List ℕ) (y : ℕ) → (get_or s 0 0 ≡ y → ⊥) → same s (y ∷ t) ≡ false
unfolding same
same_heads [] t y n = refl
same_heads (x ∷ s) t y n = rw (ne_eqb x y n)

-- a test told as a flag is read back
pub flag_back : {n : ℕ} {is : Bool} → n ≡ yes is → flag n ≡ is
unfolding flag yes
flag_back {is = true} e = rw e
flag_back {is = false} e = rw e
