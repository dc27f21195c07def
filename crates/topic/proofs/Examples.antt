-- The worked examples of section 4.7 of OASIS MQTT and those of request b), evaluated, and two as statements about `Matches` of
-- specs/Mqtt47.antt: it has members, and not all are. Document 01's marked examples are in crates/acl, in one list. Assumes nothing.
use Prim.Native.Nat.{ℕ, zero, suc}
use Prim.Native.String.{String}
use mathlib.Core.Bool.{Bool, true, false, ◌&&◌, not, beq, true≢false, and-eq-true_iff}
use mathlib.Core.List.{List, [], ◌∷◌}
use mathlib.Core.Option.{some-injective, none-ne-some}
use mathlib.Core.Path.{◌≡◌, refl, sym, ◌∙◌}
use lib.Dec.{eqb, leb}
use lib.ListN.{length}
use borrow.Author.Tests.{eq-eqb, leb-true, not-true}
use Rattle.text.specs.Ascii.{ascii}
use Rattle.text.specs.Text.{same}
use Rattle.topic.specs.Topic.{extend_first, with_byte, levels, is_only, wildcard_free, valid_levels, valid_filter, metadata, ends, takes_level, takes, dollar_rule, levels_match, levels_if, checked_levels, tree_match, plain_match}
use Rattle.topic.specs.Mqtt47.{multi, single, At, Characters, Filter, Name, Matches}
use Rattle.topic.proofs.Oasis.{filter_47, tree_47}

-- is the text a valid filter? Does the filter take the text, by T, by P, by both? Each with the document's answer
pub data Example : Type 0 where
  Valid : String → Bool → Example
  T : String → String → Bool → Example
  P : String → String → Bool → Example
  Both : String → String → Bool → Example

abbrev pub taken_by_t : String → String → Bool → Bool
taken_by_t filter text answer = beq (tree_match (ascii filter) (ascii text)) answer

abbrev pub taken_by_p : String → String → Bool → Bool
taken_by_p filter text answer = beq (plain_match (ascii filter) (ascii text)) answer

abbrev pub holds : Example → Bool
holds (Valid text answer) = beq (valid_filter (ascii text)) answer
holds (T filter text answer) = taken_by_t filter text answer
holds (P filter text answer) = taken_by_p filter text answer
holds (Both filter text answer) = taken_by_t filter text answer && taken_by_p filter text answer

abbrev pub all_hold : List Example → Bool
all_hold [] = true
all_hold (e ∷ es) = holds e && all_hold es

-- section 4.7, by its own order
abbrev pub mqtt_47_examples : List Example
mqtt_47_examples =
    Both "sport/tennis/player1/#" "sport/tennis/player1" true ∷
    Both "sport/tennis/player1/#" "sport/tennis/player1/ranking" true ∷
    Both "sport/tennis/player1/#" "sport/tennis/player1/score/wimbledon" true ∷
    Both "sport/#" "sport" true ∷
    Valid "#" true ∷
    Valid "sport/tennis/#" true ∷
    Valid "sport/tennis#" false ∷
    Valid "sport/tennis/#/ranking" false ∷
    Both "sport/tennis/+" "sport/tennis/player1" true ∷
    Both "sport/tennis/+" "sport/tennis/player1/ranking" false ∷
    Both "sport/+" "sport" false ∷
    Both "sport/+" "sport/" true ∷
    Valid "+" true ∷
    Valid "+/tennis/#" true ∷
    Valid "sport+" false ∷
    Valid "sport/+/player1" true ∷
    Both "+/+" "/finance" true ∷
    Both "/+" "/finance" true ∷
    Both "+" "/finance" false ∷
    Both "#" "$SYS/monitor/Clients" false ∷
    Both "+/monitor/Clients" "$SYS/monitor/Clients" false ∷
    Both "$SYS/#" "$SYS/monitor/Clients" true ∷
    Both "$SYS/monitor/+" "$SYS/monitor/Clients" true ∷
    Both "ACCOUNTS" "Accounts" false ∷
    Both "Accounts payable" "Accounts payable" true ∷
    Both "/finance" "finance" false ∷
    Both "finance" "/finance" false ∷
    Both "finance/" "finance" false ∷
    Both "finance" "finance/" false ∷
    Valid "/" true ∷
    Both "/" "/" true ∷
    []

-- request b) of document 02: only a leading wildcard shies from `$`, and only from the first level
abbrev pub dollar_examples : List Example
dollar_examples =
    Both "bench/g7/#" "bench/g7/$step" true ∷
    Both "+" "$SYS/a/b" false ∷
    Both "+" "$" false ∷
    Both "+/#" "$" false ∷
    Both "a/+" "a/$" true ∷
    Both "/+" "/$/" false ∷
    Both "/+/" "/$/" true ∷
    Both "/#" "/$" true ∷
    Both "#" "a/$b" true ∷
    Both "$a/#" "$a" true ∷
    Both "$a/+" "$a/$b" true ∷
    []

-- P is not T: a checked text that is no valid filter has its levels in P, and none in T
abbrev pub invalid_examples : List Example
invalid_examples =
    P "+" "a+" true ∷
    T "+" "a+" false ∷
    P "#" "$a+" false ∷
    T "#" "$a+" true ∷
    []

pub worked : (all_hold mqtt_47_examples ≡ true) × (all_hold dollar_examples ≡ true) × (all_hold invalid_examples ≡ true)
unfolding same extend_first with_byte levels is_only wildcard_free valid_levels valid_filter metadata ends takes_level takes dollar_rule levels_match levels_if checked_levels tree_match plain_match
worked = (refl, refl, refl)

-- no byte of the text is this one
abbrev lacks : ℕ → List ℕ → Bool
lacks c [] = true
lacks c (b ∷ text) = not (eqb b c) && lacks c text

nowhere : (c : ℕ) (text : List ℕ) → lacks c text ≡ true → (i : ℕ) → At text i c → ⊥
nowhere c [] e i a = none-ne-some c a
nowhere c (b ∷ text) e zero a =
    let differs = not-true (eqb b c) ((and-eq-true_iff _ (lacks c text)).0 e).0 in
    true≢false (sym (eq-eqb b c (some-injective b c a)) ∙ differs)
nowhere c (b ∷ text) e (suc i) a = nowhere c text ((and-eq-true_iff (not (eqb b c)) (lacks c text)).0 e).1 i a

characters : (text : List ℕ) → leb 1 (length text) ≡ true → lacks 0 text ≡ true → Characters text
characters text e n = record { some_character = leb-true 1 (length text) e; no_null = nowhere 0 text n }

-- a text without wildcards and zero bytes is a name
name_of : (text : List ℕ) → leb 1 (length text) ≡ true → lacks 0 text ≡ true → lacks multi text ≡ true → lacks single text ≡ true → Name text
name_of text e n m s = record { characters = characters text e n; no_multi = nowhere multi text m; no_single = nowhere single text s }

-- 4.7.3: a name consisting only of the "/" character is valid
pub slash_name : Name (ascii "/")
slash_name = name_of (ascii "/") refl refl refl refl

below_sport : Filter (ascii "sport/#")
unfolding same extend_first with_byte levels is_only wildcard_free valid_levels valid_filter
below_sport = (filter_47 (ascii "sport/#") (characters (ascii "sport/#") refl refl)).0 refl

any_level : Filter (ascii "+")
unfolding same extend_first with_byte levels is_only wildcard_free valid_levels valid_filter
any_level = (filter_47 (ascii "+") (characters (ascii "+") refl refl)).0 refl

-- 4.7.1.2: "sport/#" also matches the singular "sport", since # includes the parent level
pub parent_matches : Matches (ascii "sport/#") (ascii "sport")
unfolding same extend_first with_byte levels is_only wildcard_free valid_levels valid_filter metadata ends takes_level takes dollar_rule levels_match levels_if checked_levels tree_match
parent_matches = (tree_47 (ascii "sport/#") (ascii "sport") below_sport (name_of (ascii "sport") refl refl refl refl)).0 refl

-- 4.7.1.3: "/finance" matches "+/+" and "/+", but not "+"
pub two_levels_differ : Matches (ascii "+") (ascii "/finance") → ⊥
unfolding same extend_first with_byte levels is_only wildcard_free valid_levels valid_filter metadata ends takes_level takes dollar_rule levels_match levels_if checked_levels tree_match
two_levels_differ m = true≢false (sym ((tree_47 (ascii "+") (ascii "/finance") any_level (name_of (ascii "/finance") refl refl refl refl)).1 m))
