-- Laws of a topic whose only `$` begins one of the words that are filled. Assumes nothing.
use Prim.Native.Nat.{ℕ, suc, ◌+◌, ◌-◌, ◌≤◌, ◌<◌}
use native.Mathlib.Omega.{arith}
use mathlib.Core.Path.{◌≡◌, refl, sym, ap, subst, ◌∙◌}
use mathlib.Core.Bool.{Bool, true, false, ◌&&◌, ◌||◌, cond}
use mathlib.Core.List.{List, [], ◌∷◌, ◌++◌, append-nil}
use Rattle.std.specs.Prelude.{Option, Some}
use lib.Dec.{eqb}
use lib.ListN.{length, take, drop, drop_of_length-le, length-append, length-drop}
use lib.Seq.{drop-drop, length-take-le}
use borrow.Author.Tests.{eqb-true, eqb-false, eq-eqb, ne_eqb}
use Rattle.text.specs.Ascii.{ascii}
use Rattle.text.specs.Text.{begins, contains, occurs, replace, pasted}
use Rattle.text.proofs.Laws.{and_split, begins_split, begins-length, contains-begins, occurs_false, replace_occurrence, replace_other, replace_absent, Wrote, wrote_none, wrote_lengths, wrote_part, wrote_all, written-take, pasted_fits}
use Rattle.rule.specs.Limits.{text_limit}
use Rattle.authinfo.specs.ClientRule.{put_if, fill_for}
use Rattle.authinfo.specs.Filling.{dollar, before_dollar, dollar_from, stands_last, word_put}

-- ---- the first `$`, byte by byte

pub dollar_none : before_dollar [] ≡ 0
unfolding before_dollar
dollar_none = refl

pub dollar_here : (b : ℕ) (text : List ℕ) → b ≡ dollar → before_dollar (b ∷ text) ≡ 0
unfolding before_dollar
dollar_here b text e = rw (eq-eqb b dollar e) refl

pub dollar_onward : (b : ℕ) (text : List ℕ) → (b ≡ dollar → ⊥) → before_dollar (b ∷ text) ≡ before_dollar text + 1
unfolding before_dollar
dollar_onward b text h = rw (ne_eqb b dollar h) (omega arith)

pub dollar_first : (text : List ℕ) → dollar_from text 0 ≡ before_dollar text
unfolding dollar_from
dollar_first text = omega arith

pub dollar_within : (text : List ℕ) → before_dollar text ≤ length text
unfolding before_dollar
dollar_within [] = omega arith
dollar_within (b ∷ text) = by (eqb b dollar) (dollar_within text)
  where
    by : (t : Bool) → before_dollar text ≤ length text → cond t 0 (suc (before_dollar text)) ≤ suc (length text)
    by true h = omega arith
    by false h = omega arith

-- ---- a word that begins with `$` stands at one

module _ (w : List ℕ) where
  other_byte : (b : ℕ) (text : List ℕ) → eqb b dollar ≡ false → begins (dollar ∷ w) (b ∷ text) ≡ false
  unfolding begins
  other_byte b text e = ap (λ (t : Bool). t && begins w text) (ne_eqb dollar b (λ q. eqb-false b dollar e (sym q)))

  contains_skips : (text : List ℕ) → contains (dollar ∷ w) text ≡ contains (dollar ∷ w) (drop (before_dollar text) text)
  unfolding before_dollar
  contains_skips [] = refl
  contains_skips (b ∷ text) = by (eqb b dollar) refl (contains_skips text)
    where
      by : (t : Bool) → eqb b dollar ≡ t → contains (dollar ∷ w) text ≡ contains (dollar ∷ w) (drop (before_dollar text) text)
          → contains (dollar ∷ w) (b ∷ text) ≡ contains (dollar ∷ w) (drop (cond t 0 (suc (before_dollar text))) (b ∷ text))
      by true e h = refl
      by false e h = unfold contains in ap (λ (t : Bool). t || contains (dollar ∷ w) text) (other_byte b text e) ∙ h

  replace_skips : (new text : List ℕ) → replace (dollar ∷ w) new text ≡ take (before_dollar text) text ++ replace (dollar ∷ w) new (drop (before_dollar text) text)
  unfolding before_dollar
  replace_skips new [] = refl
  replace_skips new (b ∷ text) = by (eqb b dollar) refl (replace_skips new text)
    where
      by : (t : Bool) → eqb b dollar ≡ t → replace (dollar ∷ w) new text ≡ take (before_dollar text) text ++ replace (dollar ∷ w) new (drop (before_dollar text) text)
          → replace (dollar ∷ w) new (b ∷ text)
          ≡ take (cond t 0 (suc (before_dollar text))) (b ∷ text) ++ replace (dollar ∷ w) new (drop (cond t 0 (suc (before_dollar text))) (b ∷ text))
      by true e h = refl
      by false e h = replace_other (dollar ∷ w) new b text (occurs_false (dollar ∷ w) (b ∷ text) (other_byte b text e)) ∙ ap {B = List ℕ} (λ s. b ∷ s) h

  contains_none : (text : List ℕ) → before_dollar text ≡ length text → contains (dollar ∷ w) text ≡ false
  contains_none text e =
      contains_skips text
      ∙ (ap (λ (n : ℕ). contains (dollar ∷ w) (drop n text)) e ∙ (ap (contains (dollar ∷ w)) (drop_of_length-le text {i = length text} (omega arith)) ∙ (unfold contains begins in refl)))

-- ---- one word

-- the first `$` begins this word, and no other comes behind it
pub record OneWord (w t : List ℕ) (at : ℕ) : Type 0 where
  pub there : contains (dollar ∷ w) t ≡ true
  pub room : at + 11 ≤ length t
  pub put : (new : List ℕ) → replace (dollar ∷ w) new t ≡ word_put t at new
  pub only : (v : List ℕ) → ((rest : List ℕ) → contains (dollar ∷ v) ((dollar ∷ w) ++ rest) ≡ contains (dollar ∷ v) rest) → contains (dollar ∷ v) t ≡ false

pub one_word : (w t : List ℕ) {at : ℕ} → length (dollar ∷ w) ≡ 11 → at ≡ before_dollar t → stands_last t at (dollar ∷ w) ≡ true → OneWord w t at
unfolding stands_last dollar_from word_put
one_word w t {at} l f e =
    record {
      there = to_word w ∙ contains-begins (dollar ∷ w) (drop at t) begins-there;
      room = room;
      put = put;
      only = λ v skips. to_word v ∙ (ap (contains (dollar ∷ v)) split ∙ (skips rest ∙ contains_none v rest none));
    }
  where
    rest : List ℕ
    rest = drop (at + 11) t

    both : (begins (dollar ∷ w) (drop at t) ≡ true) × (eqb (at + 11 + before_dollar rest) (length t) ≡ true)
    both = and_split _ _ e

    begins-there : begins (dollar ∷ w) (drop at t) ≡ true
    begins-there = both.0

    room : at + 11 ≤ length t
    room = omega (arith, begins-length (dollar ∷ w) (drop at t) begins-there, length-drop at t, f)

    none : before_dollar rest ≡ length rest
    none = omega (arith, eqb-true (at + 11 + before_dollar rest) (length t) both.1, length-drop (at + 11) t, room)

    behind : drop (length (dollar ∷ w)) (drop at t) ≡ rest
    behind = drop-drop (length (dollar ∷ w)) at t ∙ ap (λ (n : ℕ). drop (at + n) t) l

    split : drop at t ≡ (dollar ∷ w) ++ rest
    split = begins_split (dollar ∷ w) (drop at t) begins-there ∙ ap (λ (s : List ℕ). (dollar ∷ w) ++ s) behind

    to_word : (v : List ℕ) → contains (dollar ∷ v) t ≡ contains (dollar ∷ v) (drop at t)
    to_word v = contains_skips v t ∙ ap (λ (n : ℕ). contains (dollar ∷ v) (drop n t)) (sym f)

    put : (new : List ℕ) → replace (dollar ∷ w) new t ≡ take at t ++ (new ++ rest)
    put new =
        replace_skips w new t
        ∙ (ap (λ (n : ℕ). take n t ++ replace (dollar ∷ w) new (drop n t)) (sym f)
        ∙ ap (λ (s : List ℕ). take at t ++ s)
        (replace_occurrence (dollar ∷ w) new (drop at t) (unfold occurs in begins-there)
        ∙ ap (λ (s : List ℕ). new ++ s) (ap (replace (dollar ∷ w) new) behind ∙ replace_absent (dollar ∷ w) new rest (contains_none w rest none))))

-- ---- the configured text, filled

module _ (id : List ℕ) (name : Option (List ℕ)) (t : List ℕ) where
  pub fill_none : before_dollar t ≡ length t → fill_for id name t ≡ Some t
  unfolding fill_for put_if
  fill_none e = rw (contains_none (ascii "{username}") t e, contains_none (ascii "{clientid}") t e)

  pub fill_id : {at : ℕ} → OneWord (ascii "{clientid}") t at → fill_for id name t ≡ Some (word_put t at id)
  unfolding fill_for put_if
  fill_id o = rw (o.only (ascii "{username}") (λ rest. unfold contains begins in refl), o.there, o.put id)

  pub fill_name : {at : ℕ} {n : List ℕ} → OneWord (ascii "{username}") t at → Some n ≡ name → fill_for id name t ≡ Some (word_put t at n)
  unfolding fill_for put_if
  fill_name {n = n} o f = rw (o.there, ← f, o.only (ascii "{clientid}") (λ rest. unfold contains begins in refl), o.put n)

-- ---- the word put

put_length : (t : List ℕ) (at : ℕ) (new : List ℕ) → at + 11 ≤ length t → length (word_put t at new) ≡ length t - 11 + length new
unfolding word_put
put_length t at new h = simp (length-append, length-take-le at t (omega arith), length-drop) (omega arith)

pub put_long : (t : List ℕ) (at : ℕ) (new : List ℕ) → length t ≤ text_limit → at + 11 ≤ length t → 256 - (length t - 11) < length new → text_limit < length (word_put t at new)
put_long t at new h k l = omega (arith, put_length t at new k)

-- one part more of a text that a buffer has room for
pasted_part : {result before buffer rest after : List ℕ} {n m : ℕ} (part : List ℕ) → Wrote result before buffer (part ++ rest) n → m ≡ n → after ≡ pasted m part buffer
    → Wrote result before after rest (n + length part)
pasted_part {result} {before} {buffer} {rest} {after} {n} part w q e =
    let lengths = wrote_lengths w in
    subst (λ (b : List ℕ). Wrote result before b rest (n + length part))
    (sym (e ∙ (ap (λ (k : ℕ). pasted k part buffer) q ∙ pasted_fits n part buffer (omega (arith, length-append part rest)))))
    (wrote_part part w)

-- a buffer after three parts: the word put stands at its front
pub record Filled (t : List ℕ) (at : ℕ) (new buffer : List ℕ) : Type 0 where
  pub room : length t - 11 + length new ≤ length buffer
  pub front : take (length t - 11 + length new) buffer ≡ word_put t at new

pub three_parts : (t : List ℕ) (at : ℕ) (new before : List ℕ) {one two three : List ℕ} → at + 11 ≤ length t → length t - 11 + length new ≤ length before
    → one ≡ pasted 0 (take at t) before → two ≡ pasted at new one → three ≡ pasted (at + length new) (drop (at + 11) t) two → Filled t at new three
unfolding word_put
three_parts t at new before {three = three} h k e f g =
    let whole : take at t ++ (new ++ (rest ++ [])) ≡ take at t ++ (new ++ rest) = ap (λ (s : List ℕ). take at t ++ (new ++ s)) (append-nil rest) in
    let lengths : length (take at t ++ (new ++ (rest ++ []))) ≡ length t - 11 + length new = ap length whole ∙ put_length t at new h in
    let first = pasted_part {rest = new ++ (rest ++ [])} (take at t) (wrote_none (take at t ++ (new ++ (rest ++ []))) before (omega arith)) refl e in
    let second = pasted_part {rest = rest ++ []} new first (omega (arith, length-take-le at t (omega arith))) f in
    let third = pasted_part {rest = []} rest second (omega (arith, length-take-le at t (omega arith))) g in
    record {
      room = omega (arith, wrote_lengths third);
      front = rw (← lengths, wrote_all third) (written-take (take at t ++ (new ++ (rest ++ []))) before (omega arith) ∙ whole);
    }
  where
    rest : List ℕ
    rest = drop (at + 11) t
