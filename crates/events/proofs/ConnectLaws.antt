-- The rows of the filled templates, pushed one after the other: the steps of the loops of `push_all`, over the lines and over a line's topics.
-- Assumes nothing.
use Prim.Native.Nat.{ℕ, suc, ◌+◌, ◌-◌, ◌≤◌, ◌<◌}
use mathlib.Core.Path.{◌≡◌, refl, sym, ap, subst, ◌∙◌}
use mathlib.Core.Bool.{false}
use mathlib.Core.List.{List, [], ◌∷◌, ◌++◌, map, append_assoc}
use Rattle.std.specs.Prelude.{Option, Some, None}
use native.Mathlib.Numerals.{add-one}
use native.Mathlib.Omega.{arith}
use lib.ListN.{length, take, drop}
use lib.Seq.{length-take-le, take-add, take-take, drop_at}
use Rattle.text.proofs.Laws.{or_split}
use Rattle.table.proofs.TableLaws.{some_append}
use Rattle.json_text.specs.Lines.{lines}
use Rattle.json_text.specs.Access.{places_from}
use Rattle.table.specs.Table.{some_row}
use Rattle.table.specs.declared.Pushed.{Pushed}
use Rattle.table.specs.declared.Pushed.TheVariants.{Present, Added, Full}
use Rattle.rule.specs.Limits.{text_limit, id_limit}
use Rattle.rule.specs.RuleText.{Filled, filled_rules, filled, rules_of}
use Rattle.events.specs.Templates.{first_topic, template_at, topic_filling, topic_filled, filled_template, over_filled}
use Rattle.events.specs.Pushes.{pushes_answer, pushes, topic_bytes, filled_bytes, new_bytes, all_answer, all_pushed}
use Rattle.events.specs.declared.FilledTopic.{FilledTopic}
use Rattle.events.specs.declared.Table.{Table}
use Rattle.events.proofs.TemplateWalk.{is_long, Brings, brings_none, brings_filter, brings_eq, topic_brings, topic_over as over_by}
use Rattle.events.proofs.PlaceWalk.{placed, lined, lined_one}
use Rattle.events.proofs.PushLaws.{PushesRow, filter_topic, eq_topic, all_present, all_added, all_full, full_leaves, added_fits, Alike, same_alike}

-- a topic's row is the row of what it brings
brings_rows : (table : Table) (session : ℕ) (id : List ℕ) {n : ℕ} {answer : FilledTopic} {after : List ℕ} {fs : List Filled} (rest : List Filled) → Brings n answer after fs
    → Alike (map (filled_bytes table session id) (fs ++ rest)) (topic_bytes table n session id answer after ∷ map (filled_bytes table session id) rest)
unfolding topic_bytes filled_bytes all_answer all_pushed pushes_answer pushes
brings_rows table session id {n} {after = after} rest (brings_none e) =
    let row = sym (ap (λ t. topic_bytes table n session id t after) e) in
    record {
      come = λ used part. (
        ap (λ r. all_answer (r ∷ map (filled_bytes table session id) rest) used part) row,
        ap (λ r. all_pushed (r ∷ map (filled_bytes table session id) rest) used part) row,
      );
    }
brings_rows table session id {n} {after = after} rest (brings_filter m e) =
    same_alike (ap (λ r. r ∷ map (filled_bytes table session id) rest) (sym (filter_topic table n session id after e)))
brings_rows table session id {n} {after = after} rest (brings_eq m e) =
    same_alike (ap (λ r. r ∷ map (filled_bytes table session id) rest) (sym (eq_topic table n session id after e)))

-- ---- the rule text

-- the rule text of a store, where it ends at a place
abbrev pub rules : ℕ → List ℕ → List ℕ
rules end s = drop 16 (take end s)

pub drop_cut : (k n : ℕ) (s : List ℕ) → k ≤ n → k ≤ length s → take (n - k) (drop k s) ≡ drop k (take n s)
drop_cut k n s h l =
    let whole : n ≡ k + (n - k) = omega arith in
    sym (ap (λ m. drop k (take m s)) whole ∙ (ap (drop k) (take-add k (n - k) s) ∙ drop_at (take k s) (take (n - k) (drop k s)) k (length-take-le k s l)))

-- as a part of what stands before a later place
pub rules_front : (end from : ℕ) (s : List ℕ) → 16 ≤ end → end ≤ from → from ≤ length s → take (end - 16) (drop 16 (take from s)) ≡ rules end s
rules_front end from s h k l =
    drop_cut 16 end (take from s) h (omega (arith, length-take-le from s l)) ∙ ap (drop 16) (take-take end from s k)

-- ---- the loops

module _ (table : Table) (session : ℕ) (id : List ℕ) (name : Option (List ℕ)) (text : List ℕ) (earlier : ℕ) (before : List ℕ) where
  abbrev rows_for : List Filled → List (Option (List ℕ))
  rows_for fs = map (filled_bytes table session id) fs

  -- the rows of these templates are left: pushed from here they come to what all come to, and no text is over 256
  pub record Left (fs : List Filled) (used : ℕ) (part : List ℕ) : Type 0 where
    pub answers : all_answer (rows_for fs) used part ≡ all_answer (new_bytes table session text id name) earlier before
    pub leaves : all_pushed (rows_for fs) used part ≡ all_pushed (new_bytes table session text id name) earlier before
    pub size : length part ≡ length before
    pub short : some_row is_long fs ≡ false

  -- so is a row before them
  pub record RowLeft (row : Option (List ℕ)) (fs : List Filled) (used : ℕ) (part : List ℕ) : Type 0 where
    pub answers : all_answer (row ∷ rows_for fs) used part ≡ all_answer (new_bytes table session text id name) earlier before
    pub leaves : all_pushed (row ∷ rows_for fs) used part ≡ all_pushed (new_bytes table session text id name) earlier before
    pub size : length part ≡ length before
    pub short : some_row is_long fs ≡ false

  moved : {fs gs : List Filled} {used : ℕ} {part : List ℕ} → fs ≡ gs → Left fs used part → Left gs used part
  moved {used = used} {part = part} e p = subst (λ (rest : List Filled). Left rest used part) e p

  pub left_start : over_filled text id name ≡ false → Left (lined id name 0 (lines text)) earlier before
  unfolding over_filled new_bytes filled lined rules_of
  left_start none_over = record { answers = refl; leaves = refl; size = refl; short = none_over }

  -- no line is left
  pub left_end : {used : ℕ} {part : List ℕ} {ls : List (List ℕ)} (rule : ℕ) → ls ≡ [] → Left (lined id name rule ls) used part
      → (Some used ≡ all_answer (new_bytes table session text id name) earlier before) × (part ≡ all_pushed (new_bytes table session text id name) earlier before)
  unfolding all_answer all_pushed lined filled_rules
  left_end rule none p = let end = moved (ap (lined id name rule) none) p in (end.answers, end.leaves)

  -- a line is left: it is its topics, and the lines behind it
  pub topics_start : {used : ℕ} {part line : List ℕ} {all ls : List (List ℕ)} {ps : List ℕ} (rule : ℕ) → all ≡ line ∷ ls → ps ≡ places_from line (first_topic line)
      → Left (lined id name rule all) used part → Left (placed id name rule line ps ++ lined id name (suc rule) ls) used part
  topics_start {line = line} {ls = ls} rule e q p =
      moved (ap (lined id name rule) e ∙ (lined_one id name rule line ls ∙ ap (λ ps. placed id name rule line ps ++ lined id name (suc rule) ls) (sym q))) p

  -- no topic is left
  pub topics_none : {used : ℕ} {part ps : List ℕ} (rule : ℕ) (line : List ℕ) (ls : List (List ℕ)) → ps ≡ []
      → Left (placed id name rule line ps ++ lined id name (suc rule) ls) used part → Left (lined id name (rule + 1) ls) used part
  unfolding placed
  topics_none rule line ls e p =
      moved (ap (λ ps. placed id name rule line ps ++ lined id name (suc rule) ls) e ∙ (λ i. lined id name (sym (add-one rule) i) ls)) p

  -- a topic is left: its row is pushed next
  pub topic_row : {used place : ℕ} {part after all ps : List ℕ} {answer : FilledTopic} (rule : ℕ) (line : List ℕ) (rest : List Filled) (buffer : List ℕ)
      → all ≡ place ∷ ps → Left (placed id name rule line all ++ rest) used part → length id ≤ id_limit → length buffer ≡ text_limit
      → answer ≡ topic_filling (length buffer) id name (template_at line place) → after ≡ topic_filled buffer id name (template_at line place)
      → RowLeft (topic_bytes table rule session id answer after) (placed id name rule line ps ++ rest) used part
  unfolding placed
  topic_row {used} {place} {part} {after} {all} {ps} rule line rest buffer e p small size told wrote =
      let here : List Filled = filled_template rule id name (template_at line place) in
      let behind : List Filled = placed id name rule line ps in
      let q = moved (ap (λ ps. placed id name rule line ps ++ rest) e ∙ append_assoc here behind rest) p in
      let shorts = or_split (some_row is_long here) (some_row is_long (behind ++ rest)) (sym (some_append is_long here (behind ++ rest)) ∙ q.short) in
      let brings = topic_brings rule id name line place buffer small size told wrote (sym (over_by rule id name line place small size told) ∙ shorts.0) in
      let alike = (brings_rows table session id (behind ++ rest) brings).come used part in
      record { answers = sym alike.0 ∙ q.answers; leaves = sym alike.1 ∙ q.leaves; size = p.size; short = shorts.1 }

  -- by what pushing it answers
  module _ {used : ℕ} {part new : List ℕ} {fs : List Filled} {row : Option (List ℕ)} {answer : Pushed}
      (p : RowLeft row fs used part) (pushes-it : PushesRow row used part answer new) (l : length new ≡ length part) where
    pub row_present : answer ≡ Present → Left fs used new
    row_present e =
        let step = all_present row (rows_for fs) used part (sym pushes-it.0 ∙ e) in
        record {
          answers = ap (all_answer (rows_for fs) used) pushes-it.1 ∙ (sym step.0 ∙ p.answers);
          leaves = ap (all_pushed (rows_for fs) used) pushes-it.1 ∙ (sym step.1 ∙ p.leaves);
          size = l ∙ p.size;
          short = p.short;
        }

    pub row_added : answer ≡ Added → Left fs (used + 1) new
    row_added e =
        let step = all_added row (rows_for fs) used part (sym pushes-it.0 ∙ e) in
        record {
          answers = (λ i. all_answer (rows_for fs) (add-one used i) (pushes-it.1 i)) ∙ (sym step.0 ∙ p.answers);
          leaves = (λ i. all_pushed (rows_for fs) (add-one used i) (pushes-it.1 i)) ∙ (sym step.1 ∙ p.leaves);
          size = l ∙ p.size;
          short = p.short;
        }

    pub row_room : ((r : List ℕ) → row ≡ Some r → 0 < length r) → answer ≡ Added → used < length before
    row_room long e = omega (arith, added_fits row used part long (sym pushes-it.0 ∙ e), p.size)

    pub row_full : answer ≡ Full
        → (None ≡ all_answer (new_bytes table session text id name) earlier before) × (new ≡ all_pushed (new_bytes table session text id name) earlier before)
    row_full e =
        let step = all_full row (rows_for fs) used part (sym pushes-it.0 ∙ e) in
        let same = pushes-it.1 ∙ full_leaves row used part (sym pushes-it.0 ∙ e) in
        (sym step.0 ∙ p.answers, same ∙ (sym step.1 ∙ p.leaves))
