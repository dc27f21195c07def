-- Laws of a rule's topic: what filling it and holding it against the asked one come to. Assumes nothing.
use Prim.Native.Nat.{ℕ, ◌+◌, ◌*◌, ◌≤◌, ◌<◌}
use native.Mathlib.Nat.{mul-le-mul_left}
use native.Mathlib.Omega.{arith}
use mathlib.Core.Path.{◌≡◌, refl, sym, ap, subst, ◌∙◌}
use mathlib.Core.Bool.{Bool, true, false}
use mathlib.Core.List.{List}
use Rattle.std.specs.Prelude.{Option, None, Some, Result, Ok, Err}
use borrow.Author.Tests.{ltb-false, lt-ltb, le-ltb, le-leb, eq-eqb, ne_eqb}
use lib.Dec.{leb}
use lib.ListN.{length, take, drop}
use Rattle.text.specs.Ascii.{ascii}
use Rattle.text.specs.Text.{same, begins, contains, replace, fitted, written}
use Rattle.text.proofs.Laws.{times, times_fit, replace-length, length_told, written-take}
use Rattle.topic.specs.Topic.{valid_filter, plain_match}
use Rattle.json_text.specs.Strings.{Decoded}
use Rattle.json_text.specs.Access.{copied}
use Rattle.json_text.specs.declared.DecodeError.{DecodeError}
use Rattle.rule.specs.Limits.{text_limit, id_limit}
use Rattle.authinfo.specs.Given.{given}
use Rattle.rule.specs.declared.Refusal.TheVariants.{NotARule, FilledTooLong}
use Rattle.rule.proofs.DecodeLaws.{written-length}
use Rattle.authinfo.specs.ClientRule.{username, clientid, put_if, fill_for, filled_topic, topic_of}
use Rattle.authinfo.specs.Decision.{topic_hits, name_over}
use Rattle.authinfo.specs.Places.{Short, ShortAt, id_put, taken_by, filled_for, topic_takes, text_of}

-- ---- a filled text

module _ (topic filled : List ℕ) (eq : Bool) where
  pub taken_long : text_limit < length filled → taken_by topic (filled_topic eq (Some filled)) ≡ Err FilledTooLong
  unfolding taken_by filled_topic
  taken_long h = rw (lt-ltb text_limit (length filled) h)

  pub taken_eq : length filled ≤ text_limit → eq ≡ true → taken_by topic (filled_topic eq (Some filled)) ≡ Ok (same filled topic)
  unfolding taken_by filled_topic topic_hits
  taken_eq h e = rw (le-ltb text_limit (length filled) h, e)

  pub taken_none : length filled ≤ text_limit → eq ≡ false → valid_filter filled ≡ false → taken_by topic (filled_topic eq (Some filled)) ≡ Err NotARule
  unfolding taken_by filled_topic topic_hits
  taken_none h e f = rw (le-ltb text_limit (length filled) h, e, f)

  pub taken_filter : length filled ≤ text_limit → eq ≡ false → valid_filter filled ≡ true → taken_by topic (filled_topic eq (Some filled)) ≡ Ok (plain_match filled topic)
  unfolding taken_by filled_topic topic_hits
  taken_filter h e f = rw (le-ltb text_limit (length filled) h, e, f)

-- ---- a text put into a buffer that it fits

module _ (result before : List ℕ) {after : List ℕ} {answer : Option ℕ}
    (told : answer ≡ fitted result (length before)) (wrote : after ≡ written result before) where
  pub put_room : {n : ℕ} → answer ≡ Some n → n ≤ length after
  put_room {n} e =
      let fits = length_told {n = n} result (length before) told e in
      rw wrote (omega (arith, written-length result before))

  pub put_front : {n : ℕ} → answer ≡ Some n → take n after ≡ result
  put_front {n} e =
      let fits = length_told {n = n} result (length before) told e in
      rw (fits.0, wrote) (written-take result before (omega arith))

-- 11 bytes become 64 at the most, so a topic of 256 bytes at most 1,489
pub between_fits : (name t : List ℕ) → length name ≤ id_limit → Short t → length (replace username name t) ≤ 1489
between_fits name t h k =
    let lengths : length (replace username name t) + times username t * 11 ≡ length t + times username t * length name = replace-length username name t in
    let places : times username t * 11 ≤ length t = times_fit username t in
    let grown : times username t * length name ≤ times username t * 64 = mul-le-mul_left (times username t) h in
    omega arith

-- a name that is given isn't over 64 bytes
pub name_fits : {name : Option ℕ} (names : List ℕ) {n : ℕ} → name_over (given name names) ≡ false → name ≡ Some n → length (take n names) ≤ id_limit
unfolding name_over given
name_fits names {n} h e = ltb-false id_limit (length (take n names)) (ap (λ (g : Option ℕ). name_over (given g names)) (sym e) ∙ h)

-- and is the part of the slice that its length tells
pub named_part : {name : Option ℕ} (names : List ℕ) {n : ℕ} {part : List ℕ} → name ≡ Some n → part ≡ take n names → Some part ≡ given name names
unfolding given
named_part names {n} e f = ap Some f ∙ ap (λ (g : Option ℕ). given g names) (sym e)

-- ---- the configured text, filled

-- the client id, where the configured topic held its word
pub not_held : {held : Bool} (id t : List ℕ) → held ≡ false → id_put held id t ≡ t
unfolding id_put
not_held id t e = rw e

pub id_held : {held : Bool} (id t : List ℕ) → held ≡ true → id_put held id t ≡ replace clientid id t
unfolding id_put
id_held id t e = rw e

-- equal texts take the same topics
pub taken_same : (topic : List ℕ) (eq : Bool) {s t : List ℕ} → s ≡ t → taken_by topic (filled_topic eq (Some s)) ≡ taken_by topic (filled_topic eq (Some t))
taken_same topic eq e = ap (λ (u : List ℕ). taken_by topic (filled_topic eq (Some u))) e

module _ (topic id : List ℕ) (name : Option (List ℕ)) (eq : Bool) (t : List ℕ) where
  pub filled_plain : {held : Bool} → held ≡ contains clientid t → contains username t ≡ false
      → taken_by topic (filled_topic eq (Some (id_put held id t))) ≡ taken_by topic (filled_topic eq (fill_for id name t))
  unfolding fill_for put_if id_put
  filled_plain h e = rw (e, h)

  pub filled_nobody : contains username t ≡ true → name ≡ None → taken_by topic (filled_topic eq (fill_for id name t)) ≡ Err NotARule
  unfolding fill_for filled_topic taken_by
  filled_nobody e f = rw (e, f)

  pub filled_named : {held : Bool} {n s : List ℕ} → held ≡ contains clientid t → contains username t ≡ true → Some n ≡ name → s ≡ replace username n t
      → taken_by topic (filled_topic eq (Some (id_put held id s))) ≡ taken_by topic (filled_topic eq (fill_for id name t))
  unfolding fill_for put_if id_put
  filled_named h e f g = rw (e, h, ← f, g)

pub absent : {name : Option ℕ} (names : List ℕ) → name ≡ None → given name names ≡ None
unfolding given
absent names e = rw e

-- ---- a configured topic

module _ (topic id : List ℕ) (name : Option (List ℕ)) (t : List ℕ) where
  pub topic_eq : begins (ascii "eq ") t ≡ true → topic_takes topic id name (Some t) ≡ taken_by topic (filled_topic true (fill_for id name (drop 3 t)))
  unfolding topic_takes filled_for topic_of
  topic_eq e = rw e

  pub topic_empty : begins (ascii "eq ") t ≡ false → length t ≡ 0 → topic_takes topic id name (Some t) ≡ Err NotARule
  unfolding topic_takes filled_for topic_of taken_by
  topic_empty e f = rw (e, eq-eqb (length t) 0 f)

  pub topic_filter : begins (ascii "eq ") t ≡ false → (length t ≡ 0 → ⊥) → topic_takes topic id name (Some t) ≡ taken_by topic (filled_topic false (fill_for id name t))
  unfolding topic_takes filled_for topic_of
  topic_filter e f = rw (e, ne_eqb (length t) 0 f)

-- ---- the string at a place

module _ (o : Option Decoded) {d : Decoded} where
  pub short_there : o ≡ Some d → ShortAt o → Short d.text
  short_there e h = subst ShortAt e h

  pub text_there : o ≡ Some d → text_of o ≡ Some d.text
  unfolding text_of
  text_there e = rw e

-- a string of at most 256 bytes that isn't decoded into as many is none
pub no_topic : (topic id : List ℕ) (name : Option (List ℕ)) (o : Option Decoded) {r : Result ℕ DecodeError} {e : DecodeError} → r ≡ copied 256 o → r ≡ Err e → ShortAt o
    → topic_takes topic id name (text_of o) ≡ Err NotARule
unfolding copied text_of topic_takes
no_topic topic id name None h k s = refl
no_topic topic id name (Some d) {r} {e} h k s =
    let fits : leb (length d.text) 256 ≡ true = le-leb (length d.text) 256 s in
    let told : r ≡ Ok (length d.text) = h ∙ rw fits in
    let z : ◌≡◌ {A = ℕ} 0 1 = cc in absurd (omega arith)
