-- The topics of a line by the places that an iterator goes over, and the lines of a rule text one after another. Assumes nothing.
use Prim.Native.Nat.{ℕ, zero, suc, ◌≤◌}
use native.Mathlib.Omega.{arith}
use mathlib.Core.Path.{◌≡◌, refl, sym, ap, ◌∙◌}
use mathlib.Core.Bool.{◌||◌}
use mathlib.Core.List.{List, [], ◌∷◌, ◌++◌, map}
use lib.ListN.{length}
use Rattle.std.specs.Prelude.{Option, None, Some, Result, Ok, Err}
use Rattle.std.specs.List.{list_any}
use Rattle.json_text.specs.Json.{line_value}
use Rattle.json_text.specs.Lines.{lines}
use Rattle.json_text.specs.Access.{places, places_from, next_item}
use Rattle.json_text.proofs.PlaceLaws.{places_none, places_few}
use Rattle.table.specs.Table.{some_row}
use Rattle.table.proofs.TableLaws.{some_append}
use Rattle.rule.specs.Limits.{id_limit}
use Rattle.rule.specs.Rule.{Rule}
use Rattle.rule.specs.RuleText.{read_rule, rule_on, rules_of, Filled, filled_topics, listed, filled_rules, filled}
use Rattle.rule.specs.Places.{place_of, fourth_of}
use Rattle.rule.specs.declared.Refusal.{Refusal}
use Rattle.events.specs.Templates.{first_of, first_in, first_topic, next_topic, template_at, filled_template, filled_from, topic_over, line_over, over_filled}
use Rattle.events.proofs.TemplateWalk.{walk_line, is_long, topic_over as over_by}

module _ (id : List ℕ) (name : Option (List ℕ)) where
  -- the filled templates at these places of a line, under the rule's number
  unfoldable pub placed : ℕ → List ℕ → List ℕ → List Filled
  placed n line [] = []
  placed n line (p ∷ ps) = filled_template n id name (template_at line p) ++ placed n line ps

  -- those of these lines, counted from n
  unfoldable pub lined : ℕ → List (List ℕ) → List Filled
  lined n ls = filled_rules n id name (map (λ line. rule_on (read_rule line)) ls)

  placed_from : (n : ℕ) (line : List ℕ) (most : ℕ) (place : Option ℕ) → placed n line (places most line place) ≡ filled_from most n id name line place
  unfolding placed places filled_from next_topic
  placed_from n line zero place = refl
  placed_from n line (suc most) None = refl
  placed_from n line (suc most) (Some p) = ap (λ fs. filled_template n id name (template_at line p) ++ fs) (placed_from n line most (next_item line p))

  none_few : (line : List ℕ) (most : ℕ) → places_from line None ≡ places most line None
  unfolding places
  none_few line zero = places_none line
  none_few line (suc most) = places_none line

  first_few : (line : List ℕ) → places_from line (first_topic line) ≡ places (length line) line (first_topic line)
  unfolding first_topic first_in first_of
  first_few line = by (read_rule line)
    where
      there : (o : Option ℕ) → places_from line (first_of line o) ≡ places (length line) line (first_of line o)
      there None = none_few line (length line)
      there (Some t) = places_few line t

      by : (o : Result Rule Refusal) → places_from line (first_in line o) ≡ places (length line) line (first_in line o)
      by (Err cause) = none_few line (length line)
      by (Ok r) = there (place_of (fourth_of (line_value line)))

  line_placed : (n : ℕ) (line : List ℕ) → placed n line (places_from line (first_topic line)) ≡ filled_topics n id name (listed (rule_on (read_rule line)))
  line_placed n line =
      ap (placed n line) (first_few line) ∙ (placed_from n line (length line) (first_topic line) ∙ walk_line n id name line (length line) (omega arith))

  -- a line's are those at its topics' places, and those of the lines behind it
  pub lined_one : (n : ℕ) (line : List ℕ) (ls : List (List ℕ)) → lined n (line ∷ ls) ≡ placed n line (places_from line (first_topic line)) ++ lined (suc n) ls
  unfolding lined filled_rules
  lined_one n line ls = ap (λ fs. fs ++ lined (suc n) ls) (sym (line_placed n line))

  -- ---- a text over 256 after both replacements

  module _ (small : length id ≤ id_limit) where
    places_over : (n : ℕ) (line ps : List ℕ) → list_any (topic_over id name line) ps ≡ some_row is_long (placed n line ps)
    unfolding placed topic_over some_row
    places_over n line [] = refl
    places_over n line (p ∷ ps) =
        let same = over_by 0 id name line p small refl refl ∙ sym (over_by n id name line p small refl refl) in
        (λ i. same i || places_over n line ps i) ∙ sym (some_append is_long (filled_template n id name (template_at line p)) (placed n line ps))

    lines_over : (n : ℕ) (ls : List (List ℕ)) → list_any (line_over id name) ls ≡ some_row is_long (lined n ls)
    unfolding lined filled_rules line_over some_row
    lines_over n [] = refl
    lines_over n (line ∷ ls) =
        (λ i. places_over n line (places_from line (first_topic line)) i || lines_over (suc n) ls i)
        ∙ sym (ap (some_row is_long) (lined_one n line ls) ∙ some_append is_long (placed n line (places_from line (first_topic line))) (lined (suc n) ls))

    pub text_over : (text : List ℕ) → list_any (line_over id name) (lines text) ≡ over_filled text id name
    unfolding over_filled filled lined rules_of
    text_over text = lines_over 0 (lines text)
