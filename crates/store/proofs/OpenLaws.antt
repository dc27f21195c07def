-- Laws of opening: counts in range, each answer of `open`, and the bytes that it writes. Assumes nothing.
use Prim.Native.Nat.{ℕ, ◌+◌, ◌-◌, ◌*◌, ◌≤◌, ◌<◌}
use mathlib.Core.Path.{◌≡◌, refl, sym, ap, ◌∙◌}
use mathlib.Core.Bool.{Bool, true, false, cond}
use mathlib.Core.List.{List, [], ◌++◌}
use Rattle.std.specs.Prelude.{Option, None, Some, Result, Ok, Err}
use Rattle.std.specs.Option.{option_map}
use Rattle.std.specs.Result.{result_ok}
use Rattle.json_text.specs.Lines.{lines}
use native.Mathlib.Nat.{sub-zero}
use native.Mathlib.Omega.{arith}
use borrow.Author.Tests.{eq-eqb, ne_eqb, leb-true, le-leb, lt-leb, lt-ltb, le-ltb}
use lib.Dec.{leb}
use lib.ListN.{length, take, drop, replicate, length-drop, replicate-append-replicate}
use lib.Seq.{take_all}
use Rattle.text.specs.Text.{pasted}
use Rattle.text.proofs.Laws.{and_split}
use Rattle.table.specs.Bytes.{u16, zeros, join}
use Rattle.rule.specs.RuleText.{text_fault}
use Rattle.rule.specs.declared.Fault.{Fault}
use Rattle.rule.specs.Places.{text_answer, rules_answer}
use Rattle.rule.specs.declared.Refusal.TheVariants.{TooLong, Counts as CountsCause}
use Rattle.store.specs.declared.Counts.{Counts}
use Rattle.store.specs.Store.{one_to, counts_fit, store_length, bytes_limit, rows_limit, filter_size, eq_size, note_size}
use Rattle.store.specs.Layout.{Codec, pad, filter_codec, numbered_codec, eq_codec, note_codec, put_all, area, header, layout}
use Rattle.store.specs.View.{faultless, rules}
use Rattle.store.specs.Check.{counts_read, text_fine, text_rules}
use Rattle.store.specs.Opening.{open_fault, opened, after_open, told, says}
use Rattle.store.proofs.RowLaws.{pasted_into, pasted-pad}

-- ---- counts

-- "R is 1 to 32,768; F, E, N 1 to 4,096"
pub record InRange (c : Counts) : Type 0 where
  pub bytes_some : 1 ≤ c.bytes
  pub bytes_most : c.bytes ≤ bytes_limit
  pub filters_some : 1 ≤ c.filters
  pub filters_most : c.filters ≤ rows_limit
  pub eqs_some : 1 ≤ c.eqs
  pub eqs_most : c.eqs ≤ rows_limit
  pub notes_some : 1 ≤ c.notes
  pub notes_most : c.notes ≤ rows_limit

pub one_to_lem : (most n : ℕ) → one_to most n ≡ true → (1 ≤ n) × (n ≤ most)
unfolding one_to
one_to_lem most n e = let h = and_split (leb 1 n) _ e in (leb-true 1 n h.0, leb-true n most h.1)

pub fit_range : (c : Counts) → counts_fit c ≡ true → InRange c
unfolding counts_fit
fit_range c e =
    let h = and_split (one_to bytes_limit c.bytes) _ e in
    let k = and_split (one_to rows_limit c.filters) _ h.1 in
    let l = and_split (one_to rows_limit c.eqs) _ k.1 in
    let bytes = one_to_lem bytes_limit c.bytes h.0 in
    let filters = one_to_lem rows_limit c.filters k.0 in
    let eqs = one_to_lem rows_limit c.eqs l.0 in
    let notes = one_to_lem rows_limit c.notes l.1 in
    record {
      bytes_some = bytes.0;
      bytes_most = bytes.1;
      filters_some = filters.0;
      filters_most = filters.1;
      eqs_some = eqs.0;
      eqs_most = eqs.1;
      notes_some = notes.0;
      notes_most = notes.1;
    }

to_one : (most n : ℕ) → 1 ≤ n → n ≤ most → one_to most n ≡ true
unfolding one_to
to_one most n h k = rw (le-leb 1 n h, le-leb n most k)

pub range_fit : (c : Counts) → InRange c → counts_fit c ≡ true
unfolding counts_fit
range_fit c h =
    rw (
      to_one bytes_limit c.bytes h.bytes_some h.bytes_most,
      to_one rows_limit c.filters h.filters_some h.filters_most,
      to_one rows_limit c.eqs h.eqs_some h.eqs_most,
      to_one rows_limit c.notes h.notes_some h.notes_most,
    )

-- what the answers of `Counts::new` tell
pub out_told : {answer : Option Counts} (c : Counts) → answer ≡ counts_read c → answer ≡ None → counts_fit c ≡ false
unfolding counts_read
out_told c e q = by (counts_fit c) (sym e ∙ q)
  where
    by : (fit : Bool) → cond fit (Some c) None ≡ None → fit ≡ false
    by true h = let z : ◌≡◌ {A = ℕ} 0 1 = cc in absurd (omega arith)
    by false h = refl

pub in_told : {answer : Option Counts} {d : Counts} (c : Counts) → answer ≡ counts_read c → answer ≡ Some d → (counts_fit c ≡ true) × (d ≡ c)
unfolding counts_read
in_told {answer} {d} c e q = by (counts_fit c) (sym e ∙ q)
  where
    by : (fit : Bool) → cond fit (Some c) None ≡ Some d → (fit ≡ true) × (d ≡ c)
    by true h = let same : d ≡ c = cc in (refl, same)
    by false h = let z : ◌≡◌ {A = ℕ} 0 1 = cc in absurd (omega arith)

-- ---- the check of a text

-- what its answers tell
pub faulty_told : {answer : Result (Unit {0}) Fault} {fault : Fault} (text : List ℕ) → answer ≡ text_answer (text_fault text) → answer ≡ Err fault
    → text_fault text ≡ Some fault
unfolding text_answer rules_answer
faulty_told {answer} {fault} text e q = at (text_fault text) (sym e ∙ q)
  where
    at : (f : Option Fault) → text_answer f ≡ Err fault → f ≡ Some fault
    at None h = let z : ◌≡◌ {A = ℕ} 0 1 = cc in absurd (omega arith)
    at (Some f) h = let same : f ≡ fault = cc in ap Some same

pub fine_told : {answer : Result (Unit {0}) Fault} (text : List ℕ) → answer ≡ text_answer (text_fault text) → answer ≡ Ok tt → text_fault text ≡ None
unfolding text_answer rules_answer
fine_told {answer} text e q = at (text_fault text) (sym e ∙ q)
  where
    at : (f : Option Fault) → text_answer f ≡ Ok tt → f ≡ None
    at None h = refl
    at (Some f) h = let z : ◌≡◌ {A = ℕ} 0 1 = cc in absurd (omega arith)

-- the text of a store with all its bytes: its rules, if it has no fault
pub text_read : {answer : Result ℕ Fault} (used : ℕ) (part : List ℕ) → used ≤ length part → zeros (take (length part - used) (drop used part)) ≡ true
    → answer ≡ rules_answer (length (lines (take used part))) (text_fault (take used part)) → result_ok answer ≡ text_rules used part
unfolding text_rules text_fine rules faultless rules_answer
text_read {answer} used part h z e =
    let all = take_all (length part - used) (drop used part) (omega (arith, length-drop used part)) in
    rw (e, le-leb used (length part) h, ← all, z) (by (text_fault (take used part)))
  where
    by : (f : Option Fault)
        → result_ok (rules_answer (length (lines (take used part))) f) ≡ cond (faultless f) (Some (length (lines (take used part)))) None
    by None = refl
    by (Some f) = refl

-- none where bytes are missing, or its padding is not zero
pub text_short : (used : ℕ) (part : List ℕ) → length part < used → None ≡ text_rules used part
unfolding text_rules text_fine
text_short used part h = rw (lt-leb used (length part) h)

pub text_unpadded : (used : ℕ) (part : List ℕ) → used ≤ length part → zeros (take (length part - used) (drop used part)) ≡ false
    → None ≡ text_rules used part
unfolding text_rules text_fine
text_unpadded used part h z =
    let all = take_all (length part - used) (drop used part) (omega (arith, length-drop used part)) in
    rw (le-leb used (length part) h, ← all, z)

-- ---- the fault of an opening, by the tests in their order

module _ (c : Counts) (text : List ℕ) (room : ℕ) where
  pub fault_counts : counts_fit c ≡ false → open_fault c text room ≡ Some (record { cause = CountsCause; line = 0 })
  unfolding open_fault
  fault_counts e = rw e

  -- `d` are the counts that were read
  module _ {d : Counts} (read : (counts_fit c ≡ true) × (d ≡ c)) where
    pub fault_length : (room ≡ store_length d → ⊥) → open_fault c text room ≡ Some (record { cause = CountsCause; line = 0 })
    unfolding open_fault
    fault_length h = rw (read.0, ne_eqb room (store_length c) (λ e. h (e ∙ sym (ap store_length read.1))))

    pub fault_over : room ≡ store_length d → d.bytes < length text → open_fault c text room ≡ Some (record { cause = TooLong; line = 0 })
    unfolding open_fault
    fault_over h k = rw (read.0, eq-eqb room (store_length c) (h ∙ ap store_length read.1), lt-ltb c.bytes (length text) (rw read.1 at k))

    pub fault_text : room ≡ store_length d → length text ≤ d.bytes → open_fault c text room ≡ text_fault text
    unfolding open_fault
    fault_text h k = rw (read.0, eq-eqb room (store_length c) (h ∙ ap store_length read.1), le-ltb c.bytes (length text) (rw read.1 at k))

-- ---- the answer and the store afterwards

pub open_refused : {fault : Fault} (c : Counts) (text s : List ℕ) → open_fault c text (length s) ≡ Some fault
    → (says (Err fault) ≡ option_map told (open_fault c text (length s))) × (s ≡ after_open c text s)
unfolding says told after_open
open_refused c text s e = (rw e, rw (e, after_open))

-- `d` are the counts that were read
pub open_done : {d : Counts} {t : List ℕ} (c : Counts) (text s : List ℕ) → open_fault c text (length s) ≡ None → d ≡ c → t ≡ layout (opened d text)
    → (says (Ok tt) ≡ option_map told (open_fault c text (length s))) × (t ≡ after_open c text s)
unfolding says after_open
open_done c text s e q p = (rw e, rw (e, after_open) (p ∙ ap (λ (d : Counts). layout (opened d text)) q))

-- ---- the bytes of a store without used rows

-- "Padding and unused rows are zero": a table without used rows
pub area_none : {Row : Type 0} (c : Codec Row) (room : ℕ) → area c room [] ≡ replicate (room * c.size) 0
unfolding area pad put_all join
area_none c room = rw (sub-zero (room * c.size))

-- the zeros of a store, stretch by stretch
zeros_split : (c : Counts) → replicate {A = ℕ} (store_length c) 0
    ≡ replicate 16 0 ++ (replicate c.bytes 0 ++ (replicate (c.filters * filter_size) 0 ++ (replicate (c.eqs * eq_size) 0 ++ replicate (c.notes * note_size) 0)))
unfolding store_length
zeros_split c =
    let two : ℕ = c.eqs * eq_size + c.notes * note_size in
    let three : ℕ = c.filters * filter_size + two in
    let four : ℕ = c.bytes + three in
    let sum : store_length c ≡ 16 + four = omega arith in
    ap (λ (n : ℕ). replicate {A = ℕ} n 0) sum
    ∙ (sym (replicate-append-replicate 16 four 0)
    ∙ ap (λ (b : List ℕ). replicate 16 0 ++ b)
    (sym (replicate-append-replicate c.bytes three 0)
    ∙ ap (λ (b : List ℕ). replicate c.bytes 0 ++ b)
    (sym (replicate-append-replicate (c.filters * filter_size) two 0)
    ∙ ap (λ (b : List ℕ). replicate (c.filters * filter_size) 0 ++ b) (sym (replicate-append-replicate (c.eqs * eq_size) (c.notes * note_size) 0)))))

-- the header's five numbers, then the text, into the zeros
pub write_open : {s0 s1 s2 s3 s4 s5 store : List ℕ} (c : Counts) (text : List ℕ) → length text ≤ c.bytes
    → s0 ≡ replicate (store_length c) 0 → s1 ≡ pasted 0 (u16 c.bytes) s0 → s2 ≡ pasted 2 (u16 c.filters) s1 → s3 ≡ pasted 4 (u16 c.eqs) s2
    → s4 ≡ pasted 6 (u16 c.notes) s3 → s5 ≡ pasted 8 (u16 (length text)) s4 → store ≡ pasted 16 text s5
    → store ≡ layout (opened c text)
unfolding layout opened header filter_codec numbered_codec u16
write_open c text h p0 p1 p2 p3 p4 p5 p6 =
    let rest : List ℕ = replicate (c.filters * filter_size) 0 ++ (replicate (c.eqs * eq_size) 0 ++ replicate (c.notes * note_size) 0) in
    let back : List ℕ = replicate c.bytes 0 ++ rest in
    let two : List ℕ = u16 c.bytes ++ u16 c.filters in
    let three : List ℕ = two ++ u16 c.eqs in
    let four : List ℕ = three ++ u16 c.notes in
    let zero-bytes = p0 ∙ zeros_split c in
    let after-1 = p1 ∙ (ap (pasted 0 (u16 c.bytes)) zero-bytes ∙ pasted_into [] (replicate 2 0) (replicate 14 0 ++ back) (u16 c.bytes) 0 refl refl) in
    let after-2 = p2 ∙ (ap (pasted 2 (u16 c.filters)) after-1 ∙ pasted_into (u16 c.bytes) (replicate 2 0) (replicate 12 0 ++ back) (u16 c.filters) 2 refl refl) in
    let after-3 = p3 ∙ (ap (pasted 4 (u16 c.eqs)) after-2 ∙ pasted_into two (replicate 2 0) (replicate 10 0 ++ back) (u16 c.eqs) 4 refl refl) in
    let after-4 = p4 ∙ (ap (pasted 6 (u16 c.notes)) after-3 ∙ pasted_into three (replicate 2 0) (replicate 8 0 ++ back) (u16 c.notes) 6 refl refl) in
    let after-5 = p5 ∙ (ap (pasted 8 (u16 (length text))) after-4 ∙ pasted_into four (replicate 2 0) (replicate 6 0 ++ back) (u16 (length text)) 8 refl refl) in
    rw (area_none filter_codec c.filters, area_none eq_codec c.eqs, area_none note_codec c.notes)
    (p6 ∙ (ap (pasted 16 text) after-5 ∙ pasted-pad (four ++ (u16 (length text) ++ replicate 6 0)) rest text c.bytes 16 refl h))
