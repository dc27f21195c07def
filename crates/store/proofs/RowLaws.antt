-- Laws of rows written to a buffer, and of a stretch of zeros. Assumes nothing.
use Prim.Native.Nat.{ℕ, ◌+◌, ◌-◌, ◌*◌, ◌≤◌, ◌<◌, ◌/◌}
use mathlib.Core.Path.{◌≡◌, refl, sym, ap, ◌∙◌}
use mathlib.Core.Bool.{Bool, true, false, ◌&&◌, ◌||◌, not}
use mathlib.Core.List.{List, [], ◌∷◌, ◌++◌, append_assoc, append-nil}
use native.Mathlib.Nat.{mul-le-mul_right}
use native.Mathlib.Omega.{arith}
use borrow.Author.Tests.{eq-eqb, ne_eqb, le-leb, lt-leb}
use lib.ListN.{length, take, drop, replicate, length-append, length-drop, length-replicate, replicate-append-replicate, drop_of_length-le}
use lib.Seq.{drop-drop, take_at, drop_at, length-take-le}
use Rattle.std.specs.List.{list_all}
use Rattle.text.specs.Text.{same, pasted}
use Rattle.text.proofs.Laws.{pasted_fits}
use Rattle.table.specs.Table.{some_row, distinct}
use Rattle.table.specs.Bytes.{u16, zeros, rows}
use Rattle.rule.specs.Limits.{text_limit, id_limit}
use Rattle.store.specs.Store.{filter_size, eq_size}
use Rattle.store.specs.Layout.{Codec, pad, filter_codec, numbered_codec, eq_codec, note_codec, put_row}
use Rattle.store.specs.Check.{table_fine}
use Rattle.store.proofs.LayoutLaws.{pad-length}

-- ---- tables that are fine, by the tests in their order

-- whole rows, by the number of them that there is room for
pub room_for : (size used n : ℕ) → 0 < size → used ≤ n / size → used * size ≤ n
room_for size used n p h = omega (arith, mul-le-mul_right size h)

pub no_room : (size used n : ℕ) → 0 < size → n / size < used → n < used * size
no_room size used n p h =
    let more : n / size + 1 ≤ used = omega arith in
    omega (arith, mul-le-mul_right size more)

all_not : (fine : List ℕ → Bool) (rs : List (List ℕ)) → list_all fine rs ≡ not (some_row (λ r. not (fine r)) rs)
unfolding some_row
all_not fine [] = refl
all_not fine (r ∷ rs) = at (fine r) (all_not fine rs)
  where
    at : (b : Bool) → list_all fine rs ≡ not (some_row (λ r. not (fine r)) rs) → (b && list_all fine rs) ≡ not (not b || some_row (λ r. not (fine r)) rs)
    at true e = e
    at false e = refl

module _ (size : ℕ) (fine : List ℕ → Bool) (used : ℕ) (part : List ℕ) where
  pub table_short : length part < used * size → false ≡ table_fine size fine used part
  unfolding table_fine
  table_short h = rw (lt-leb (used * size) (length part) h)

  pub table_by : {fines zero one : Bool} → used * size ≤ length part → fines ≡ list_all fine (rows size used part)
      → zero ≡ zeros (drop (used * size) part) → one ≡ distinct same (rows size used part) → (fines && (zero && one)) ≡ table_fine size fine used part
  unfolding table_fine
  table_by h f z o = rw (le-leb (used * size) (length part) h, ← all_not fine (rows size used part), ← f, ← z, ← o)

-- ---- writing

-- a source for a stretch of its length
pub pasted_into : (front gap back source : List ℕ) (at : ℕ) → length front ≡ at → length source ≡ length gap
    → pasted at source (front ++ (gap ++ back)) ≡ front ++ (source ++ back)
pasted_into front gap back source at e q =
    let room : at + length source ≤ length (front ++ (gap ++ back)) = simp length-append (omega arith) in
    let behind : drop (at + length source) (front ++ (gap ++ back)) ≡ back =
    rw (← append_assoc front gap back) (drop_at (front ++ gap) back (at + length source) (simp length-append (omega arith))) in
    rw (pasted_fits at source (front ++ (gap ++ back)) room, behind, take_at front (gap ++ back) at e)

-- a text for a stretch of zeros, of which the others are its padding
pub pasted-pad : (front back source : List ℕ) (n at : ℕ) → length front ≡ at → length source ≤ n
    → pasted at source (front ++ (replicate n 0 ++ back)) ≡ front ++ (pad n source ++ back)
unfolding pad
pasted-pad front back source n at e h =
    let k = length source in
    let sum : k + (n - k) ≡ n = omega arith in
    let parts : replicate {A = ℕ} n 0 ≡ replicate k 0 ++ replicate (n - k) 0 = rw (replicate-append-replicate {A = ℕ} k (n - k) 0, sum) in
    rw (parts, append_assoc (replicate k 0) (replicate (n - k) 0) back, append_assoc source (replicate (n - k) 0) back) (pasted_into front (replicate k 0) _ source at e (sym (length-replicate {A = ℕ} k 0)))

-- a stretch of zeros put in after those before it
pub zeros_on : {part t : List ℕ} (from to : ℕ) (s : List ℕ) → from ≤ to → to ≤ length s → t ≡ replicate from 0 ++ drop from s
    → part ≡ replicate (length (take (to - from) (drop from t))) 0
    → take from t ++ (part ++ drop (to - from) (drop from t)) ≡ replicate to 0 ++ drop to s
zeros_on {part} {t} from to s h k e p =
    let zero-bytes = length-replicate {A = ℕ} from 0 in
    let before = ap (take from) e ∙ take_at (replicate from 0) (drop from s) from zero-bytes in
    let behind = ap (drop from) e ∙ drop_at (replicate from 0) (drop from s) from zero-bytes in
    let count = length-take-le (to - from) (drop from s) (omega (arith, length-drop from s)) in
    let sum : from + (to - from) ≡ to = omega arith in
    let parts : replicate {A = ℕ} to 0 ≡ replicate from 0 ++ replicate (to - from) 0 = rw (replicate-append-replicate {A = ℕ} from (to - from) 0, sum) in
    rw (before, p, behind, count, drop-drop (to - from) from s, sum, parts) (sym (append_assoc (replicate from 0) (replicate (to - from) 0) (drop to s)))

-- the last of them
pub zeros_end : {part t : List ℕ} (from : ℕ) (s : List ℕ) → from ≤ length s → t ≡ replicate from 0 ++ drop from s
    → part ≡ replicate (length (take (length t - from) (drop from t))) 0
    → take from t ++ (part ++ drop (length t - from) (drop from t)) ≡ replicate (length s) 0
zeros_end {part} {t} from s h e p =
    let all : length t ≡ length s = ap length e ∙ simp (length-append, length-replicate, length-drop) (omega arith) in
    let end : replicate (length s) 0 ++ drop (length s) s ≡ replicate (length s) 0 =
    rw (drop_of_length-le s {i = length s} (omega arith)) (append-nil (replicate (length s) 0)) in
    rw all (zeros_on from (length s) s h (omega arith) e (rw all at p) ∙ end)

-- ---- rows

-- a buffer of another size
pub put_row_not : {Row : Type 0} (c : Codec Row) (r : Row) (s : List ℕ) → (length s ≡ c.size → ⊥) → s ≡ put_row c r s
unfolding put_row
put_row_not c r s h = rw (ne_eqb (length s) c.size h)

pub put_numbered : {cleared-row with-rule row : List ℕ} (rule : ℕ) (text s : List ℕ) → length text ≤ text_limit → length s ≡ eq_size
    → cleared-row ≡ replicate (length s) 0 → with-rule ≡ pasted 0 (u16 rule) cleared-row → row ≡ pasted 4 text (pasted 2 (u16 (length text)) with-rule)
    → row ≡ put_row eq_codec (record { rule = rule; text = text }) s
unfolding put_row numbered_codec u16
put_numbered rule text s h e p q r =
    let front : List ℕ = u16 rule ++ u16 (length text) in
    let zero-bytes = rw e at p in
    let after-1 = q ∙ (ap (pasted 0 (u16 rule)) zero-bytes ∙ pasted_into [] (replicate 2 0) (replicate 258 0) (u16 rule) 0 refl refl) in
    let after-2 = ap (pasted 2 (u16 (length text))) after-1 ∙ pasted_into (u16 rule) (replicate 2 0) (replicate 256 0) (u16 (length text)) 2 refl refl in
    let after-3 = ap (pasted 4 text) after-2 ∙ pasted-pad front [] text text_limit 4 refl h in
    rw (eq-eqb (length s) eq_size e) (r ∙ (after-3 ∙ ap (λ (b : List ℕ). front ++ b) (append-nil (pad text_limit text))))

pub put_filter : {cleared-row with-rule with_text row : List ℕ} (rule : ℕ) (text owner s : List ℕ)
    → length text ≤ text_limit → length owner ≤ id_limit → length s ≡ filter_size
    → cleared-row ≡ replicate (length s) 0 → with-rule ≡ pasted 0 (u16 rule) cleared-row → with_text ≡ pasted 6 text (pasted 2 (u16 (length text)) with-rule)
    → row ≡ pasted (6 + text_limit) owner (pasted 4 (u16 (length owner)) with_text)
    → row ≡ put_row filter_codec (record { rule = rule; text = text; owner = owner }) s
unfolding put_row filter_codec u16
put_filter rule text owner s h k e p q r t =
    let numbers : List ℕ = u16 rule ++ u16 (length text) in
    let behind : List ℕ = pad text_limit text ++ replicate 64 0 in
    let front : List ℕ = numbers ++ (u16 (length owner) ++ pad text_limit text) in
    let zero-bytes = rw e at p in
    let after-1 = q ∙ (ap (pasted 0 (u16 rule)) zero-bytes ∙ pasted_into [] (replicate 2 0) (replicate 324 0) (u16 rule) 0 refl refl) in
    let after-2 = ap (pasted 2 (u16 (length text))) after-1 ∙ pasted_into (u16 rule) (replicate 2 0) (replicate 322 0) (u16 (length text)) 2 refl refl in
    let after-3 = r ∙ (ap (pasted 6 text) after-2 ∙ pasted-pad (numbers ++ replicate 2 0) (replicate 64 0) text text_limit 6 refl h) in
    let after-4 = ap (pasted 4 (u16 (length owner))) after-3 ∙ pasted_into numbers (replicate 2 0) behind (u16 (length owner)) 4 refl refl in
    let after-5 = ap (pasted 262 owner) after-4 ∙ pasted-pad front [] owner id_limit 262 (omega (arith, pad-length text_limit text h)) k in
    rw (eq-eqb (length s) filter_size e) (t ∙ (after-5 ∙ ap (λ (b : List ℕ). front ++ b) (append-nil (pad id_limit owner))))

-- an eq row and a note row are written alike
pub put_note : (n : ℕ) (text s : List ℕ) → put_row eq_codec (record { rule = n; text = text }) s ≡ put_row note_codec (record { session = n; text = text }) s
unfolding put_row numbered_codec
put_note n text s = refl
