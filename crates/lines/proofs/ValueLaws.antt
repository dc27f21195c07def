-- What is read at the place of a value is what the value says. Assumes nothing.
use Prim.Native.Nat.{ℕ}
use native.Mathlib.Omega.{arith}
use mathlib.Core.Path.{◌≡◌, refl, sym, ap, ◌∙◌}
use mathlib.Core.Bool.{Bool, true, false}
use mathlib.Core.List.{List}
use Rattle.std.specs.Prelude.{Option, None, Some}
use Rattle.std.specs.Option.{option_map}
use lib.ListN.{length}
use Rattle.json_text.specs.Strings.{Decoded, string_at}
use Rattle.json_text.specs.Json.{Json, null, bool, number, text, array, object, word_at, depth_limit}
use Rattle.json_text.specs.declared.Read.{Read}
use Rattle.json_text.specs.Access.{number_here, decoded_length, literal_is, literal_of, kind_at}
use Rattle.json_text.specs.declared.Kind.TheVariants.{Word}
use Rattle.json_text.proofs.ValueLaws.{All, value_as, value_by}
use Rattle.json_text.proofs.AccessSteps.{kind_is, word_kind}
use Rattle.json_text.proofs.AccessLaws.{kind_is_lem, number_of, number_is, text_of, length-is, string_here}
use Rattle.rule.specs.Rule.{Located, Value, as_text, as_number}
use Rattle.rule.proofs.StandsLaws.{ValueStands}
use Rattle.lines.specs.Call.{as_string, is_null}
use Rattle.lines.specs.Reading.{is_null_word}

-- the text of a decoded string
abbrev pub text_of_string : Option Decoded → Option (List ℕ)
text_of_string o = option_map (λ (d : Decoded). d.text) o

module _ (line : List ℕ) where
  no_string : (at : ℕ) → decoded_length line at ≡ None → string_at line at ≡ None
  unfolding decoded_length
  no_string at = by (string_at line at)
    where
      by : (o : Option Decoded) → option_map (λ (d : Decoded). length d.text) o ≡ None → o ≡ None
      by None q = refl
      by (Some d) q = let z : ◌≡◌ {A = ℕ} 0 1 = cc in absurd (omega arith)

  module _ (v : Value) (s : ValueStands line v) where
    pub string_value : text_of_string (string_at line v.at) ≡ as_string v
    unfolding as_string as_text text_of
    string_value = by v.value refl
      where
        other : {j : Json} → v.value ≡ j → text_of (λ s. Some (length s)) None j ≡ None → text_of_string (string_at line v.at) ≡ None
        other e q =
            ap text_of_string
            (no_string v.at (length-is depth_limit line v.at s.reads ∙ (ap (text_of (λ s. Some (length s)) None) e ∙ q)))

        by : (j : Json) → v.value ≡ j
            → text_of_string (string_at line v.at)
            ≡ option_map (λ (t : Located). t.text)
            (elim j [ null ↦ None | bool b ↦ None | number n ↦ None | text t ↦ Some (record { at = v.at; text = t }) | array es ↦ None | object ms ↦ None ])
        by null e = other e refl
        by (bool b) e = other e refl
        by (number n) e = other e refl
        by (text t) e = let h = string_here depth_limit line v.at s.reads e in ap text_of_string h.1 ∙ ap Some h.2
        by (array es) e = other e refl
        by (object ms) e = other e refl

    pub number_value : number_here line v.at ≡ (as_number v)
    unfolding number_of as_number
    number_value = number_is depth_limit line v.at s.reads ∙ by v.value
      where
        by : (j : Json) → number_of j ≡ (as_number (record { at = v.at; value = j }))
        by null = refl
        by (bool b) = refl
        by (number n) = refl
        by (text t) = refl
        by (array es) = refl
        by (object ms) = refl

    pub null_value : is_null_word (literal_of (word_at line v.at)) ≡ is_null v
    unfolding is_null kind_is
    null_value = by v.value refl
      where
        kind : kind_at line v.at ≡ kind_is v.value
        kind = kind_is_lem depth_limit line v.at s.reads

        no_word : (o : Option (Read Json)) → All (λ r. (kind_is r.value ≡ Word) × (kind_at line v.at ≡ Word)) o → (kind_at line v.at ≡ Word → ⊥) → is_null_word (literal_of o) ≡ false
        no_word None h k = unfold literal_of is_null_word in refl
        no_word (Some r) h k = absurd (k h.1)

        word : {j : Json} → v.value ≡ j → kind_is j ≡ Word → is_null_word (literal_of (word_at line v.at)) ≡ is_null_word (literal_is j)
        word e q =
            unfold literal_of kind_at value_as in
            ap (λ (o : Option (Read Json)). is_null_word (literal_of o)) (sym (value_by depth_limit line v.at (kind ∙ (ap kind_is e ∙ q))) ∙ s.reads)
            ∙ ap (λ (j : Json). is_null_word (literal_is j)) e

        other : {j : Json} → v.value ≡ j → (kind_is j ≡ Word → ⊥) → is_null_word (literal_of (word_at line v.at)) ≡ false
        other e q = no_word (word_at line v.at) (word_kind line v.at) (λ h. q (sym (kind ∙ ap kind_is e) ∙ h))

        either : (b : Bool) → is_null_word (literal_is (bool b)) ≡ false
        either true = unfold literal_is is_null_word in refl
        either false = unfold literal_is is_null_word in refl

        by : (j : Json) → v.value ≡ j
            → is_null_word (literal_of (word_at line v.at))
            ≡ elim j [ null ↦ true | bool b ↦ false | number n ↦ false | text t ↦ false | array es ↦ false | object ms ↦ false ]
        by null e = word e refl ∙ (unfold literal_is is_null_word in refl)
        by (bool b) e = word e refl ∙ either b
        by (number n) e = other e (λ h. let z : ◌≡◌ {A = ℕ} 0 1 = cc in omega arith)
        by (text t) e = other e (λ h. let z : ◌≡◌ {A = ℕ} 0 1 = cc in omega arith)
        by (array es) e = other e (λ h. let z : ◌≡◌ {A = ℕ} 0 1 = cc in omega arith)
        by (object ms) e = other e (λ h. let z : ◌≡◌ {A = ℕ} 0 1 = cc in omega arith)
