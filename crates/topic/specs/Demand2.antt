-- Demand 2, of filters and matching: "Filters and matching are proved against a definition written from section 4.7 of OASIS MQTT 3.1.1 and
-- 5.0". That definition is in Mqtt47.antt, the documents' own in Topic.antt: the contracts of `valid_filter`, `tree_match` and `plain_match`
-- cite the latter. Each claim holds for texts of any length; which texts it speaks of is in its premises.
use Rattle.std.specs.Prelude.{ℕ, ◌≡◌, true, ◌↔◌, List}
use Rattle.topic.specs.Topic.{valid_filter, tree_match, plain_match}
use Rattle.topic.specs.Mqtt47.{Characters, Filter, Name, Matches}

-- "Filters .. are proved against a definition written from section 4.7": a text is valid exactly if it is a topic filter of 4.7. Document
-- 01: "The empty text is one Blank and valid here, though 4.7 wants one character; U+0000 is accepted too": `Characters` leaves out these
abbrev pub Filter47 : Type 0
Filter47 = (text : List ℕ) → Characters text → (valid_filter text ≡ true) ↔ Filter text

-- "plugin matching for every topic name": Tree match T answers yes exactly if the topic filter matches the topic name
abbrev pub Tree47 : Type 0
Tree47 = (filter name : List ℕ) → Filter filter → Name name → (tree_match filter name ≡ true) ↔ Matches filter name

-- and so does Plain match P. Request b) of document 02: "The accuracy rule now holds 4.7 for every topic name in both matchings"
abbrev pub Plain47 : Type 0
Plain47 = (filter name : List ℕ) → Filter filter → Name name → (plain_match filter name ≡ true) ↔ Matches filter name
