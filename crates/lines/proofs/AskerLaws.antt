-- Who asks, by the places of a line and by its elements. Assumes nothing.
use Prim.Native.Nat.{ℕ, ◌≤◌}
use mathlib.Core.Path.{◌≡◌, refl, sym, ap, ◌∙◌}
use mathlib.Core.List.{List}
use Rattle.std.specs.Prelude.{Option, None, Some, Result, Ok, Err}
use Rattle.std.specs.Option.{option_map}
use Rattle.std.specs.Result.{result_ok}
use Rattle.text.specs.Maybe.{bind}
use Rattle.std.proofs.lemmas.Option.{none-some}
use lib.ListN.{length, take}
use Rattle.json_text.specs.Json.{array, Elements, line_value}
use Rattle.json_text.specs.Access.{copied, decoded_into}
use Rattle.rule.specs.Rule.{nth, as_number}
use Rattle.authinfo.specs.Given.{given}
use Rattle.rule.specs.Identity.{Client}
use Rattle.lines.specs.Call as call
use Rattle.lines.specs.Call.{asks, as_string, or_null, or_zero, asker_in}
use Rattle.reader.specs.declared.Fields.{Fields}
use Rattle.lines.specs.declared.Asker.{Asker}
use Rattle.reader.specs.Reader.{fields_here}
use Rattle.lines.specs.Reading.{string_from, earlier_from, given_from, protocol_from, with_protocol, with_texts, with_id, asker_here}
use Rattle.lines.proofs.ElementLaws.{second, third, fourth, fifth, sixth, seventh, earlier_read, text_read, text_unread, given_read, given_unread, protocol_read, bind_none}
use Rattle.json_text.specs.declared.DecodeError.TheVariants.{NoText, TooLong}
use Rattle.json_text.specs.declared.DecodeError.{DecodeError}

-- ---- what was read: all of it is right, or some of it is wrong

record Right (earlier : Option ℕ) (id : Result ℕ DecodeError) (name password address : Option (Option ℕ)) (p : Option (Option ℕ)) (a : Asker) : Type 0 where
  is_earlier : earlier ≡ Some a.earlier
  is_id : result_ok id ≡ Some a.id
  is_name : name ≡ Some a.name
  is_password : password ≡ Some a.password
  is_address : address ≡ Some a.address
  is_protocol : p ≡ Some a.protocol

data Wrong (earlier : Option ℕ) (id : Result ℕ DecodeError) (name password address : Option (Option ℕ)) (p : Option (Option ℕ)) : Type 0 where
  no_earlier : earlier ≡ None → Wrong earlier id name password address p
  not_id : result_ok id ≡ None → Wrong earlier id name password address p
  no_name : name ≡ None → Wrong earlier id name password address p
  no_password : password ≡ None → Wrong earlier id name password address p
  no_address : address ≡ None → Wrong earlier id name password address p
  no_protocol : p ≡ None → Wrong earlier id name password address p

right : (earlier : Option ℕ) (id : Result ℕ DecodeError) (name password address : Option (Option ℕ)) (p : Option (Option ℕ)) {a : Asker} → with_id earlier id name password address p ≡ Some a
    → Right earlier id name password address p a
unfolding with_id with_texts with_protocol
right None id name password address p q = absurd (none-some _ q)
right (Some e) (Err TooLong) name password address p q = absurd (none-some _ q)
right (Some e) (Err NoText) name password address p q = absurd (none-some _ q)
right (Some e) (Ok n) None password address p q = absurd (none-some _ q)
right (Some e) (Ok n) (Some name) None address p q = absurd (none-some _ q)
right (Some e) (Ok n) (Some name) (Some password) None p q = absurd (none-some _ q)
right (Some e) (Ok n) (Some name) (Some password) (Some address) None q = absurd (none-some _ q)
right (Some e) (Ok n) (Some name) (Some password) (Some address) (Some p) {a} q =
    let h : record { earlier = e; id = n; name = name; password = password; address = address; protocol = p } ≡ a = cc in
    record {
      is_earlier = ap (λ (a : Asker). Some a.earlier) h;
      is_id = ap (λ (a : Asker). Some a.id) h;
      is_name = ap (λ (a : Asker). Some a.name) h;
      is_password = ap (λ (a : Asker). Some a.password) h;
      is_address = ap (λ (a : Asker). Some a.address) h;
      is_protocol = ap (λ (a : Asker). Some a.protocol) h;
    }

wrong : (earlier : Option ℕ) (id : Result ℕ DecodeError) (name password address : Option (Option ℕ)) (p : Option (Option ℕ)) → with_id earlier id name password address p ≡ None
    → Wrong earlier id name password address p
unfolding with_id with_texts with_protocol
wrong None id name password address p q = no_earlier refl
wrong (Some e) (Err TooLong) name password address p q = not_id refl
wrong (Some e) (Err NoText) name password address p q = not_id refl
wrong (Some e) (Ok n) None password address p q = no_name refl
wrong (Some e) (Ok n) (Some name) None address p q = no_password refl
wrong (Some e) (Ok n) (Some name) (Some password) None p q = no_address refl
wrong (Some e) (Ok n) (Some name) (Some password) (Some address) None q = no_protocol refl
wrong (Some e) (Ok n) (Some name) (Some password) (Some address) (Some p) q = absurd (none-some _ (sym q))

-- ---- who asks, by the elements

-- the six parts of `asker_in`
unfoldable asker_by : Option (Option ℕ) → Option (List ℕ) → Option (Option (List ℕ)) → Option (Option (List ℕ)) → Option (Option (List ℕ)) → Option (Option ℕ)
    → Option call.Asker
asker_by e i n w a p =
    bind e
    (λ earlier.
    bind i
    (λ id.
    bind n
    (λ name.
    bind w
    (λ password.
    bind a
    (λ address.
    option_map
    (λ protocol.
    record {
      earlier = or_zero earlier;
      client = record { id = id; name = name; password = password; address = address; protocol = protocol };
    })
    p)))))

-- all six
by_told : (e : Option (Option ℕ)) {i : Option (List ℕ)} {n w a : Option (Option (List ℕ))} {p : Option (Option ℕ)} {earlier : ℕ} {id : List ℕ}
    {name password address : Option (List ℕ)} {protocol : Option ℕ}
    → option_map or_zero e ≡ Some earlier → i ≡ Some id → n ≡ Some name → w ≡ Some password → a ≡ Some address → p ≡ Some protocol
    → asker_by e i n w a p
    ≡ Some (record { earlier = earlier; client = record { id = id; name = name; password = password; address = address; protocol = protocol } })
unfolding asker_by bind
by_told None q h j k l m = absurd (none-some _ q)
by_told (Some x) {earlier = earlier} {id} {name} {password} {address} {protocol} q h j k l m =
    rw (h, j, k, l, m)
    (ap
    (λ (o : Option ℕ).
    option_map
    (λ y. record { earlier = y; client = record { id = id; name = name; password = password; address = address; protocol = protocol } })
    o)
    q)

-- an asker's client, by the buffers with his texts
abbrev pub client_of : Asker → List ℕ → List ℕ → List ℕ → List ℕ → Client
client_of a ids names passwords addresses =
    record {
      id = take a.id ids;
      name = given a.name names;
      password = given a.password passwords;
      address = given a.address addresses;
      protocol = a.protocol;
    }

pub record Asks (es : Elements) (a : Asker) (ids names passwords addresses : List ℕ) : Type 0 where
  pub is : asker_in es ≡ Some (record { earlier = a.earlier; client = client_of a ids names passwords addresses })

-- without the last of his elements there is no asker
pub asker_short : (es : Elements) → nth 6 es ≡ None → asker_in es ≡ None
unfolding asker_in bind
asker_short es q = simp (q, bind_none)

-- who asks as it was read, with buffers that have room for the line, is who asks by the elements
module _ (line : List ℕ) (es : Elements) (is : line_value line ≡ Some (array es)) (f : Fields) (at : f ≡ fields_here line) (before : List ℕ)
    (room : length line ≤ length before) where
  pub asker_told : {answer : Option Asker} {ids names passwords addresses : List ℕ} {a : Asker}
      → answer ≡ asker_here (length before) (length before) (length before) (length before) line f
      → ids ≡ decoded_into before (string_from line f.third) → names ≡ decoded_into before (string_from line f.fourth)
      → passwords ≡ decoded_into before (string_from line f.fifth) → addresses ≡ decoded_into before (string_from line f.sixth)
      → answer ≡ Some a → Asks es a ids names passwords addresses
  unfolding asker_in asker_by asker_here
  asker_told c i n w d q =
      let r = right _ _ _ _ _ _ (sym c ∙ q) in
      record {
        is = by_told (bind (nth 1 es) (or_null as_number))
            (earlier_read line es is 1 (second line es is f at) refl r.is_earlier)
            (text_read line es is 2 (third line es is f at) before room refl i r.is_id)
            (given_read line es is 3 (fourth line es is f at) before room refl n r.is_name)
            (given_read line es is 4 (fifth line es is f at) before room refl w r.is_password)
            (given_read line es is 5 (sixth line es is f at) before room refl d r.is_address)
            (protocol_read line es is 6 (seventh line es is f at) refl r.is_protocol);
      }

  pub asker_bad : {answer : Option Asker} → answer ≡ asker_here (length before) (length before) (length before) (length before) line f
      → answer ≡ None → asker_in es ≡ None
  unfolding asker_in asker_here bind
  asker_bad c q = by (wrong _ _ _ _ _ _ (sym c ∙ q))
    where
      none_earlier : (x : Option (Option ℕ)) → option_map or_zero x ≡ None → x ≡ None
      none_earlier None k = refl
      none_earlier (Some m) k = absurd (none-some _ (sym k))

      by : Wrong (earlier_from line f.second) (copied (length before) (string_from line f.third)) (given_from (length before) line f.fourth)
          (given_from (length before) line f.fifth) (given_from (length before) line f.sixth) (protocol_from line f.seventh) → asker_in es ≡ None
      by (no_earlier k) = simp (none_earlier (bind (nth 1 es) (or_null as_number)) (earlier_read line es is 1 (second line es is f at) refl k))
      by (not_id k) = simp (text_unread line es is 2 (third line es is f at) before room refl k, bind_none)
      by (no_name k) = simp (given_unread line es is 3 (fourth line es is f at) before room refl k, bind_none)
      by (no_password k) = simp (given_unread line es is 4 (fifth line es is f at) before room refl k, bind_none)
      by (no_address k) = simp (given_unread line es is 5 (sixth line es is f at) before room refl k, bind_none)
      by (no_protocol k) = simp (protocol_read line es is 6 (seventh line es is f at) refl k, bind_none)
