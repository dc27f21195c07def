-- What is told of a rule's line from its front: the access and the users, then the control and the place of the topics. Where the line is a
-- rule, these are its parts. And a topic under `eq`, where it stands.
use Rattle.std.specs.Prelude.{ℕ, ◌+◌, ◌-◌, ◌≡◌, Bool, true, cond, List, ltb, take, drop, Option, None, Some, option_map, option_and_then, Result, Err}
use Rattle.text.specs.Ascii.{ascii}
use Rattle.text.specs.Text.{same}
use Rattle.json_text.specs.Json.{Json, is_at, skip_blanks, separator_at, value_at, longest}
use Rattle.json_text.specs.Access.{next_item}
use Rattle.json_text.specs.Plain.{plain_text}
use Rattle.json_text.specs.declared.Read.{Read}
use Rattle.json_text.specs.declared.Separator.{Separator}
use Rattle.json_text.specs.declared.Separator.TheVariants.{Close, Comma}
use Rattle.rule.specs.Limits.{text_limit}
use Rattle.rule.specs.RuleText.{or_not_a_rule}
use Rattle.rule.specs.Places.{word_of, access_of_word, control_of_word, users_of_place, too_many, control_here, with_control, rule_here}
use Rattle.rule.specs.Members.{value_behind}
use Rattle.rule.specs.declared.Word.{Word}
use Rattle.rule.specs.declared.Control.{Control}
use Rattle.rule.specs.declared.Control.TheVariants.{All as AllControl}
use Rattle.rule.specs.declared.Users.{Users}
use Rattle.rule.specs.declared.Refusal.TheVariants.{TooLong}
use Rattle.rule.specs.declared.Rest.{Rest}
use Rattle.rule.specs.declared.Refusal.{Refusal}
use Rattle.rule.specs.declared.EqText.{EqText}
use Rattle.rule.specs.declared.Rule.{Rule}

-- what was told, with the place behind it
unfoldable pub told_to : {A : Type 0} → ℕ → Option A → Option (Read A)
told_to next o = option_map (λ a. record { value = a; next = next }) o

-- the word of a plain string
unfoldable pub word_between : List ℕ → ℕ → ℕ → Option Word
word_between line at end = word_of (take (end - (at + 1)) (drop (at + 1) line))

-- an access with the place of the users, by what stands behind its word
unfoldable pub access_before : Option Separator → Option Word → Option (Read Bool)
access_before (Some (Comma users)) word = told_to users (option_and_then access_of_word word)
access_before (Some (Close next)) word = None
access_before None word = None

unfoldable pub access_from : List ℕ → ℕ → Option ℕ → Option (Read Bool)
access_from line at o = option_and_then (λ end. access_before (separator_at 0x5d line (end + 1)) (word_between line at end)) o

-- the access of a line that begins an array with a plain word that is one, and the place of the users behind it
unfoldable pub access_of : List ℕ → Option (Read Bool)
access_of line =
    let first = skip_blanks line 0 in
    let at = skip_blanks line (first + 1) in
    cond (is_at line first 0x5b) (access_from line at (plain_text line at)) None

-- the users at a place, and the place behind them, where no string of theirs is over the limit
unfoldable pub users_within : List ℕ → Bool → ℕ → Option (Read Json) → Option (Read Users)
users_within line allow at o =
    option_and_then (λ r. cond (ltb text_limit (longest r.value)) None (told_to r.next (users_of_place line allow (Some at)))) o

unfoldable pub users_up_to : List ℕ → Bool → ℕ → Option (Read Users)
users_up_to line allow at = users_within line allow at (value_at 7 line at)

-- a control and the topics behind it: all where none stand there, else by their place; nothing where the word isn't plain or is no control
unfoldable pub topics_before : Control → Option Separator → Option Rest
topics_before control (Some (Comma next)) = Some (record { control = control; topics = Some next })
topics_before control (Some (Close next)) = Some (record { control = control; topics = None })
topics_before control None = None

unfoldable pub word_from : List ℕ → ℕ → Option ℕ → Option Rest
word_from line at o =
    option_and_then
    (λ end. option_and_then (λ control. topics_before control (separator_at 0x5d line (end + 1))) (option_and_then control_of_word (word_between line at end)))
    o

-- what stands behind users that end before a place: no control means all
unfoldable pub rest_behind : List ℕ → Option Separator → Option Rest
rest_behind line (Some (Close next)) = Some (record { control = AllControl; topics = None })
rest_behind line (Some (Comma at)) = word_from line at (plain_text line at)
rest_behind line None = None

unfoldable pub rest_of : List ℕ → ℕ → Option Rest
rest_of line end = rest_behind line (separator_at 0x5d line end)

-- the string of an object whose only member is `eq`, name and string plain: its quotes' places, and the place behind the object
unfoldable pub eq_before : ℕ → ℕ → Option Separator → Option EqText
eq_before opens closes (Some (Close end)) = Some (record { opens = opens; closes = closes; next = end })
eq_before opens closes (Some (Comma next)) = None
eq_before opens closes None = None

unfoldable pub eq_valued : List ℕ → Option ℕ → Option EqText
eq_valued line o =
    option_and_then (λ opens. option_and_then (λ closes. eq_before opens closes (separator_at 0x7d line (closes + 1))) (plain_text line opens)) o

unfoldable pub eq_named : List ℕ → ℕ → Option ℕ → Option EqText
eq_named line name o =
    option_and_then
    (λ end. cond (same (take (end - (name + 1)) (drop (name + 1) line)) (ascii "eq")) (eq_valued line (value_behind line (end + 1))) None)
    o

unfoldable pub eq_of : List ℕ → ℕ → Option EqText
eq_of line at = let name = skip_blanks line (at + 1) in cond (is_at line at 0x7b) (eq_named line name (plain_text line name)) None

-- ---- what these are where the line is a rule

-- the line begins with a plain word that is this access, and its users stand at this place
pub record AccessTo (line : List ℕ) (allow : Bool) (users : ℕ) : Type 0 where
  pub first : ℕ
  pub access : ℕ
  pub end : ℕ
  pub word : Word
  pub begins : first ≡ skip_blanks line 0
  pub opens : is_at line first 0x5b ≡ true
  pub behind : access ≡ skip_blanks line (first + 1)
  pub quoted : plain_text line access ≡ Some end
  pub is : word_of (take (end - (access + 1)) (drop (access + 1) line)) ≡ Some word
  pub means : access_of_word word ≡ Some allow
  pub separated : separator_at 0x5d line (end + 1) ≡ Some (Comma users)

-- where the item behind one that ends before this place would begin
unfoldable pub item_behind : List ℕ → ℕ → Option ℕ
item_behind line end = let p = skip_blanks line end in cond (is_at line p 0x2c) (Some (skip_blanks line (p + 1))) None

-- what the line gives, by its access and its users, which end before this place
unfoldable pub behind_users : List ℕ → Bool → Users → ℕ → Result Rule Refusal
behind_users line allow users end =
    let control = item_behind line end in
    let topics = option_and_then (next_item line) control in
    cond (too_many line topics) (Err TooLong) (or_not_a_rule (with_control line allow users (control_here line control) topics))

-- the line has this access and these users, which end before this place
abbrev pub FrontTo : List ℕ → Bool → Users → ℕ → Type 0
FrontTo line allow users end = rule_here line ≡ behind_users line allow users end

-- this control stands at a place, and these topics behind it
pub record ControlAt (line : List ℕ) (place : Option ℕ) (control : Control) (topics : Option ℕ) : Type 0 where
  pub is : control_here line place ≡ Some control
  pub behind : option_and_then (next_item line) place ≡ topics

abbrev pub WordFrom : List ℕ → ℕ → Control → Option ℕ → Type 0
WordFrom line at control topics = ControlAt line (Some at) control topics

-- this control stands behind users that end before this place
abbrev pub RestFrom : List ℕ → ℕ → Control → Option ℕ → Type 0
RestFrom line end control topics = ControlAt line (item_behind line end) control topics

-- an object that ends before a place, whose only member is `eq` with the plain string between these quotes
pub record EqTo (line : List ℕ) (at opens closes end : ℕ) : Type 0 where
  pub name : ℕ
  pub name_end : ℕ
  pub brace : is_at line at 0x7b ≡ true
  pub begins : name ≡ skip_blanks line (at + 1)
  pub quoted_name : plain_text line name ≡ Some name_end
  pub is : same (take (name_end - (name + 1)) (drop (name + 1) line)) (ascii "eq") ≡ true
  pub behind : value_behind line (name_end + 1) ≡ Some opens
  pub quoted : plain_text line opens ≡ Some closes
  pub ends : separator_at 0x7d line (closes + 1) ≡ Some (Close end)
