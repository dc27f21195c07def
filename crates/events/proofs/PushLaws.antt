-- Rows pushed one after the other: what one push answers, a table's stretch of the store put back into it, and the steps of the loop that
-- pushes the rows of the filled templates. Assumes nothing.
use Prim.Native.Nat.{ℕ, suc, ◌+◌, ◌*◌, ◌-◌, ◌≤◌, ◌<◌}
use mathlib.Core.Path.{◌≡◌, refl, sym, ap, ◌∙◌}
use mathlib.Core.Bool.{Bool, true, false, cond}
use mathlib.Core.List.{List, ◌∷◌, ◌++◌}
use Rattle.std.specs.Prelude.{Option, None, Some}
use native.Mathlib.Nat.{mul-le-mul_left}
use native.Mathlib.Omega.{arith}
use borrow.Author.Tests.{eq-eqb, lt-ltb, le-ltb, leb-true}
use borrow.Rule.Slice.PartMut.{mid_of, put_mid, Post-is}
use lib.Dec.{leb}
use lib.ListN.{length, take, drop, replicate, length-replicate}
use Rattle.text.specs.Text.{fits_at, pasted}
use Rattle.topic.specs.Topic.{valid_filter}
use Rattle.table.specs.Bytes.{u16, present, push_answer, pushed, restored}
use Rattle.table.specs.declared.Pushed.{Pushed}
use Rattle.table.specs.declared.Pushed.TheVariants.{Present, Added, Full}
use Rattle.rule.specs.Limits.{text_limit, id_limit}
use Rattle.store.specs.declared.Counts.{Counts}
use Rattle.store.specs.declared.Shape.{Shape}
use Rattle.store.specs.Store.{store_length, filter_size, eq_size, note_size}
use Rattle.store.specs.Layout.{Codec, filter_codec, numbered_codec, eq_codec, put_row, filters_at, eqs_at, notes_at}
use Rattle.events.specs.Pushes.{filter_bytes, numbered_bytes, pushes_answer, pushes, filter_in, eq_in, topic_bytes, all_answer, all_pushed, replaced, put_back}
use Rattle.events.specs.declared.FilledTopic.{FilledTopic}
use Rattle.events.specs.declared.FilledTopic.TheVariants.{Static, TooLong, Filter, Eq}
use Rattle.events.specs.declared.Table.{Table}
use Rattle.events.specs.declared.Table.TheVariants.{Filters, Eqs, Notes}

-- ---- one push

-- what pushing a row, or nothing, answers and leaves
abbrev pub PushesRow : Option (List ℕ) → ℕ → List ℕ → Pushed → List ℕ → Type 0
PushesRow row used part answer after = (answer ≡ pushes_answer row used part) × (after ≡ pushes row used part)

pub pushes_as : {row row₁ : Option (List ℕ)} {answer : Pushed} {after : List ℕ} (used : ℕ) (part : List ℕ) → row₁ ≡ row → PushesRow row used part answer after
    → PushesRow row₁ used part answer after
pushes_as used part e h = (h.0 ∙ ap (λ r. pushes_answer r used part) (sym e), h.1 ∙ ap (λ r. pushes r used part) (sym e))

pub pushes_none : {row : Option (List ℕ)} (used : ℕ) (part : List ℕ) → row ≡ None → PushesRow row used part Present part
unfolding pushes_answer pushes
pushes_none used part e = pushes_as used part e (refl, refl)

-- a row that was written to a buffer of its size
pub pushes_put : {Row : Type 0} {answer : Pushed} {after bytes : List ℕ} (c : Codec Row) (r : Row) (size used : ℕ) (part : List ℕ) → size ≡ c.size
    → bytes ≡ put_row c r (replicate size 0) → (answer ≡ push_answer bytes used part) × (after ≡ pushed bytes used part)
    → PushesRow (Some (c.put r)) used part answer after
unfolding pushes_answer pushes put_row
pushes_put c r size used part s e h =
    let fits = eq-eqb (length (replicate {A = ℕ} size 0)) c.size (length-replicate size 0 ∙ s) in
    let same = e ∙ (λ i. cond (fits i) (c.put r) (replicate size 0)) in
    (h.0 ∙ ap (λ b. push_answer b used part) same, h.1 ∙ ap (λ b. pushed b used part) same)

pub pushes_numbered : {answer : Pushed} {after bytes : List ℕ} (n : ℕ) (text : List ℕ) (used : ℕ) (part : List ℕ)
    → bytes ≡ put_row eq_codec (record { rule = n; text = take text_limit text }) (replicate eq_size 0)
    → (answer ≡ push_answer bytes used part) × (after ≡ pushed bytes used part) → PushesRow (numbered_bytes n text) used part answer after
unfolding numbered_bytes
pushes_numbered n text used part = pushes_put eq_codec (record { rule = n; text = take text_limit text }) eq_size used part (unfold numbered_codec in refl)

pub filter_bytes_lem : (rule : ℕ) (text id : List ℕ) → valid_filter text ≡ true
    → filter_bytes rule text id ≡ Some (filter_codec.put (record { rule = rule; text = take text_limit text; owner = take id_limit id }))
unfolding filter_bytes
filter_bytes_lem rule text id v = rw v

pub no_filter_bytes : (rule : ℕ) (text id : List ℕ) → valid_filter text ≡ false → filter_bytes rule text id ≡ None
unfolding filter_bytes
no_filter_bytes rule text id v = rw v

pub pushes_filter : {answer : Pushed} {after bytes : List ℕ} (rule : ℕ) (text id : List ℕ) (used : ℕ) (part : List ℕ) → valid_filter text ≡ true
    → bytes ≡ put_row filter_codec (record { rule = rule; text = take text_limit text; owner = take id_limit id }) (replicate filter_size 0)
    → (answer ≡ push_answer bytes used part) × (after ≡ pushed bytes used part) → PushesRow (filter_bytes rule text id) used part answer after
pushes_filter rule text id used part v e h =
    pushes_as used part (filter_bytes_lem rule text id v)
    (pushes_put filter_codec (record { rule = rule; text = take text_limit text; owner = take id_limit id }) filter_size used part (unfold filter_codec in refl) e h)

-- ---- the row that a filled topic is

module _ (table : Table) (rule session : ℕ) (id text : List ℕ) {topic : FilledTopic} {n : ℕ} where
  pub filter_topic : topic ≡ Filter n → topic_bytes table rule session id topic text ≡ filter_in table rule session id (take n text)
  unfolding topic_bytes
  filter_topic e = rw e

  pub eq_topic : topic ≡ Eq n → topic_bytes table rule session id topic text ≡ eq_in table rule session id (take n text)
  unfolding topic_bytes
  eq_topic e = rw e

-- ---- the tables put back

pub places : (c : Counts) → (filters_at c ≤ eqs_at c) × (eqs_at c ≤ notes_at c) × (notes_at c ≤ store_length c)
unfolding filters_at eqs_at notes_at store_length
places c = (omega arith, omega arith, omega arith)

pub back_short : (shape : Shape) (filters eqs notes : ℕ) (s : List ℕ) → length s < store_length shape.counts → s ≡ put_back shape filters eqs notes s
unfolding put_back
back_short shape filters eqs notes s h = rw (lt-ltb (length s) (store_length shape.counts) h)

-- what is done to a stretch of the store, put back into it
pub put_part : {new : List ℕ} (from to : ℕ) (f : List ℕ → List ℕ) (s : List ℕ) → from ≤ to → new ≡ f (mid_of from (to - from) s)
    → put_mid from (to - from) s new ≡ replaced from to f s
unfolding replaced
put_part from to f s h e = rw (e, Post-is from to s h)

pub put_parts : {at₁ at₂ at₃ end : ℕ} {new₁ new₂ new₃ : List ℕ} (shape : Shape) (filters eqs notes : ℕ) (s : List ℕ)
    → at₁ ≡ filters_at shape.counts → at₂ ≡ eqs_at shape.counts → at₃ ≡ notes_at shape.counts → end ≡ store_length shape.counts → end ≤ length s
    → new₁ ≡ restored filter_size shape.filters filters (mid_of at₁ (at₂ - at₁) s)
    → new₂ ≡ restored eq_size shape.eqs eqs (mid_of at₂ (at₃ - at₂) (put_mid at₁ (at₂ - at₁) s new₁))
    → new₃ ≡ restored note_size shape.notes notes (mid_of at₃ (end - at₃) (put_mid at₂ (at₃ - at₂) (put_mid at₁ (at₂ - at₁) s new₁) new₂))
    → put_mid at₃ (end - at₃) (put_mid at₂ (at₃ - at₂) (put_mid at₁ (at₂ - at₁) s new₁) new₂) new₃ ≡ put_back shape filters eqs notes s
put_parts {at₁} {at₂} {at₃} {end} shape filters eqs notes s e₁ e₂ e₃ e₄ h q₁ q₂ q₃ =
    let ordered = places shape.counts in
    let f = restored filter_size shape.filters filters in
    let g = restored eq_size shape.eqs eqs in
    let k = restored note_size shape.notes notes in
    let p₁ = put_part at₁ at₂ f s (omega arith) q₁ in
    let p₂ = put_part at₂ at₃ g _ (omega arith) q₂ ∙ ap (replaced at₂ at₃ g) p₁ in
    let p₃ = put_part at₃ end k _ (omega arith) q₃ ∙ ap (replaced at₃ end k) p₂ in
    p₃ ∙ ((λ i. replaced (e₃ i) (e₄ i) k (replaced (e₂ i) (e₃ i) g (replaced (e₁ i) (e₂ i) f s))) ∙ sym whole)
  where
    whole : put_back shape filters eqs notes s
        ≡ replaced (notes_at shape.counts) (store_length shape.counts) (restored note_size shape.notes notes)
        (replaced (eqs_at shape.counts) (notes_at shape.counts) (restored eq_size shape.eqs eqs)
        (replaced (filters_at shape.counts) (eqs_at shape.counts) (restored filter_size shape.filters filters) s))
    whole = unfold put_back in rw (le-ltb (length s) (store_length shape.counts) (omega arith))

-- ---- all rows of a table

-- the first of the rows, by what pushing it answers
module _ (row : Option (List ℕ)) (rows : List (Option (List ℕ))) (used : ℕ) (part : List ℕ) where
  pub all_present : pushes_answer row used part ≡ Present
      → (all_answer (row ∷ rows) used part ≡ all_answer rows used (pushes row used part)) × (all_pushed (row ∷ rows) used part ≡ all_pushed rows used (pushes row used part))
  unfolding all_answer all_pushed
  all_present e = (rw (e, all_answer), rw (e, all_pushed))

  pub all_added : pushes_answer row used part ≡ Added
      → (all_answer (row ∷ rows) used part ≡ all_answer rows (suc used) (pushes row used part))
      × (all_pushed (row ∷ rows) used part ≡ all_pushed rows (suc used) (pushes row used part))
  unfolding all_answer all_pushed
  all_added e = (rw (e, all_answer), rw (e, all_pushed))

  pub all_full : pushes_answer row used part ≡ Full → (all_answer (row ∷ rows) used part ≡ None) × (all_pushed (row ∷ rows) used part ≡ part)
  unfolding all_answer all_pushed
  all_full e = (rw (e, all_answer), rw (e, all_pushed))

-- where there is no room, nothing is written
pub full_leaves : (row : Option (List ℕ)) (used : ℕ) (part : List ℕ) → pushes_answer row used part ≡ Full → pushes row used part ≡ part
unfolding pushes_answer pushes push_answer pushed pasted
full_leaves None used part e = refl
full_leaves (Some row) used part e = at (present row used part) (fits_at (used * length row) row part) e
  where
    at : (b d : Bool) → cond b Present (cond d Added Full) ≡ Full
        → cond b part (cond d (take (used * length row) part ++ (row ++ drop (used * length row + length row) part)) part) ≡ part
    at true d e = refl
    at false true e = let z : ◌≡◌ {A = ℕ} 0 1 = cc in absurd (omega arith)
    at false false e = refl

-- where a row was added, there was room for more rows than were used
pub added_fits : (row : Option (List ℕ)) (used : ℕ) (part : List ℕ) → ((r : List ℕ) → row ≡ Some r → 0 < length r) → pushes_answer row used part ≡ Added → used < length part
unfolding pushes_answer push_answer fits_at
added_fits None used part h e = let z : ◌≡◌ {A = ℕ} 0 1 = cc in absurd (omega arith)
added_fits (Some row) used part h e = at (present row used part) (leb (used * length row + length row) (length part)) refl e
  where
    at : (b d : Bool) → leb (used * length row + length row) (length part) ≡ d → cond b Present (cond d Added Full) ≡ Added → used < length part
    at true d q e = let z : ◌≡◌ {A = ℕ} 0 1 = cc in absurd (omega arith)
    at false true q e =
        let long = h row refl in
        let once : used * 1 ≤ used * length row = mul-le-mul_left used long in
        omega (arith, leb-true (used * length row + length row) (length part) q)
    at false false q e = let z : ◌≡◌ {A = ℕ} 0 1 = cc in absurd (omega arith)

-- a row has bytes
cons_long : (x : ℕ) (s row : List ℕ) → Some (x ∷ s) ≡ Some row → 0 < length row
cons_long x s row e = let q : x ∷ s ≡ row = cc in omega (arith, ap length q)

numbered_long : (n : ℕ) (text row : List ℕ) → numbered_bytes n text ≡ Some row → 0 < length row
unfolding numbered_bytes numbered_codec u16
numbered_long n text row e = cons_long _ _ row e

filter_long : (rule : ℕ) (text id row : List ℕ) → filter_bytes rule text id ≡ Some row → 0 < length row
unfolding filter_bytes filter_codec u16
filter_long rule text id row e = at (valid_filter text) _ _ e
  where
    at : (b : Bool) (x : ℕ) (s : List ℕ) → cond b (Some (x ∷ s)) None ≡ Some row → 0 < length row
    at true x s e = cons_long x s row e
    at false x s e = let z : ◌≡◌ {A = ℕ} 0 1 = cc in absurd (omega arith)

none_long : (row : List ℕ) → None ≡ Some row → 0 < length row
none_long row e = let z : ◌≡◌ {A = ℕ} 0 1 = cc in absurd (omega arith)

pub topic_long : (table : Table) (rule session : ℕ) (id : List ℕ) (t : FilledTopic) (text row : List ℕ)
    → topic_bytes table rule session id t text ≡ Some row → 0 < length row
unfolding topic_bytes filter_in eq_in
topic_long table rule session id Static text row = none_long row
topic_long table rule session id TooLong text row = none_long row
topic_long Filters rule session id (Filter n) text row = filter_long rule (take n text) id row
topic_long Eqs rule session id (Filter n) text row = none_long row
topic_long Notes rule session id (Filter n) text row = numbered_long session (take n text) row
topic_long Filters rule session id (Eq n) text row = none_long row
topic_long Eqs rule session id (Eq n) text row = numbered_long rule (take n text) row
topic_long Notes rule session id (Eq n) text row = none_long row

-- lists of rows that come to the same
pub record Alike (rows rows₁ : List (Option (List ℕ))) : Type 0 where
  pub come : (used : ℕ) (part : List ℕ) → (all_answer rows used part ≡ all_answer rows₁ used part) × (all_pushed rows used part ≡ all_pushed rows₁ used part)

pub same_alike : {rows rows₁ : List (Option (List ℕ))} → rows ≡ rows₁ → Alike rows rows₁
same_alike e = record { come = λ used part. (ap (λ rs. all_answer rs used part) e, ap (λ rs. all_pushed rs used part) e) }
