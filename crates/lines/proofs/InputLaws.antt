-- Laws of `specs/Input.antt`: what is gathered byte by byte is the line, and the rules, that stand in the input (document 01, Marked examples,
-- "standard input is rule lines, an empty line, event lines"). Assumes nothing.
use Prim.Native.Nat.{ℕ, suc, ◌+◌, ◌≤◌, ◌<◌}
use native.Mathlib.Nat.{add-zero, zero-add}
use native.Mathlib.Numerals.{add-one}
use native.Mathlib.Omega.{arith}
use mathlib.Core.Path.{◌≡◌, refl, sym, ap, ◌∙◌}
use mathlib.Core.Bool.{Bool, true, false, ◌&&◌, not, cond, true≢false}
use mathlib.Core.List.{List, [], ◌∷◌, ◌++◌, map, append_assoc, append-nil}
use Rattle.std.specs.Prelude.{Option, None, Some}
use lib.Dec.{eqb, leb}
use lib.ListN.{length, take, drop, set, length-append, length-set, length-drop, take-append-drop, drop_of_length-le}
use lib.Seq.{take-suc-set, drop-set-lt, length-take-le, take_at}
use borrow.Author.Tests.{lt-ltb, le-ltb, leb-true, leb-false, not-true}
use Rattle.text.proofs.Laws.{and_split}
use Rattle.lines.specs.declared.Taken.{Taken}
use Rattle.lines.specs.declared.Taken.TheVariants.{Part, Line}
use Rattle.lines.specs.declared.Rules.{Rules}
use Rattle.lines.specs.declared.RulesTaken.{RulesTaken}
use Rattle.lines.specs.declared.RulesTaken.TheVariants.{Part as RulesPart, Whole, TooLong}
use Rattle.lines.specs.Input.{Begun, longer, taken, put, kept, rules_taken, rules_kept}

-- the bytes of a line: none is an LF
unfoldable pub unbroken : List ℕ → Bool
unbroken [] = true
unbroken (b ∷ line) = not (eqb b 10) && unbroken line

unbroken_first : (b : ℕ) (line : List ℕ) → unbroken (b ∷ line) ≡ true → (eqb b 10 ≡ false) × (unbroken line ≡ true)
unfolding unbroken
unbroken_first b line u = let h = and_split (not (eqb b 10)) (unbroken line) u in (not-true (eqb b 10) h.0, h.1)

unbroken-append : (s t : List ℕ) → unbroken (s ++ t) ≡ true → (unbroken s ≡ true) × (unbroken t ≡ true)
unfolding unbroken
unbroken-append [] t u = (refl, u)
unbroken-append (b ∷ s) t u =
    let h = and_split (not (eqb b 10)) (unbroken (s ++ t)) u in
    let others = unbroken-append s t h.1 in
    ((rw (h.0, others.0)), others.1)

-- ---- one byte

-- so many bytes of a line that fits so far, and of one that doesn't
abbrev pub short : ℕ → Begun
short n = Some n

abbrev pub long : Begun
long = None

module _ (n b : ℕ) (buffer : List ℕ) (e : eqb b 10 ≡ false) where
  room_taken : n < length buffer → taken (short n) (length buffer) b ≡ Part (short (n + 1))
  unfolding taken longer
  room_taken h = rw (e, lt-ltb n (length buffer) h)

  room_kept : n < length buffer → kept (short n) buffer b ≡ set buffer n b
  unfolding kept put
  room_kept h = rw (e, lt-ltb n (length buffer) h)

  full_taken : length buffer ≤ n → taken (short n) (length buffer) b ≡ Part long
  unfolding taken longer
  full_taken h = rw (e, le-ltb n (length buffer) h)

  full_kept : length buffer ≤ n → kept (short n) buffer b ≡ buffer
  unfolding kept put
  full_kept h = rw (e, le-ltb n (length buffer) h)

  long-taken : taken long (length buffer) b ≡ Part long
  unfolding taken longer
  long-taken = rw e

  long_kept : kept long buffer b ≡ buffer
  unfolding kept put
  long_kept = rw e

-- the buffer with a text from a place on
abbrev with_text : ℕ → List ℕ → List ℕ → List ℕ
with_text n text buffer = take n buffer ++ (text ++ drop (n + length text) buffer)

with_none : (n : ℕ) (buffer : List ℕ) → buffer ≡ with_text n [] buffer
with_none n buffer = rw (add-zero n) (sym (take-append-drop n buffer))

with_more : (n b : ℕ) (text buffer : List ℕ) → n < length buffer → with_text (n + 1) text (set buffer n b) ≡ with_text n (b ∷ text) buffer
with_more n b text buffer h =
    (λ i. fronts i ++ (text ++ backs i)) ∙ append_assoc (take n buffer) (b ∷ []) _
  where
    fronts : take (n + 1) (set buffer n b) ≡ take n buffer ++ (b ∷ [])
    fronts = rw (add-one n) (take-suc-set buffer n b h)

    place : n + 1 + length text ≡ n + suc (length text)
    place = omega arith

    backs : drop (n + 1 + length text) (set buffer n b) ≡ drop (n + suc (length text)) buffer
    backs = drop-set-lt (n + 1 + length text) buffer n b (omega arith) ∙ ap (λ (k : ℕ). drop k buffer) place

-- ---- the bytes of a line, for whatever is made of them, if it goes on byte by byte
module _ {R : Type 0} (made : List ℕ → Begun → List ℕ → R)
    (step : (b : ℕ) (bytes buffer : List ℕ) (begun next : Begun) → taken begun (length buffer) b ≡ Part next
    → made (b ∷ bytes) begun buffer ≡ made bytes next (kept begun buffer b))
  where
    -- the first bytes of a line stand in the buffer
    goes_on : (line others buffer : List ℕ) (n : ℕ) → unbroken line ≡ true → n + length line ≤ length buffer
        → made (line ++ others) (short n) buffer ≡ made others (short (n + length line)) (with_text n line buffer)
    goes_on [] others buffer n u h = let place = sym (add-zero n) in λ i. made others (short (place i)) (with_none n buffer i)
    goes_on (b ∷ line) others buffer n u h =
        let first = unbroken_first b line u in
        let place : n + 1 + length line ≡ n + suc (length line) = omega arith in
        step b (line ++ others) buffer (short n) (short (n + 1)) (room_taken n b buffer first.0 (omega arith)) ∙
        (ap (made (line ++ others) (short (n + 1))) (room_kept n b buffer first.0 (omega arith)) ∙
        (goes_on line others (set buffer n b) (n + 1) first.1 (omega (arith, length-set buffer n b)) ∙
        (λ i. made others (short (place i)) (with_more n b line buffer (omega arith) i))))

    -- a line that is too long stays so
    stays-long : (line others buffer : List ℕ) (n : ℕ) → unbroken line ≡ true → made (line ++ others) long buffer ≡ made others long buffer
    stays-long [] others buffer n u = refl
    stays-long (b ∷ line) others buffer n u =
        let first = unbroken_first b line u in
        step b (line ++ others) buffer long long (long-taken n b buffer first.0) ∙
        (ap (made (line ++ others) long) (long_kept n b buffer first.0) ∙ stays-long line others buffer n first.1)

    -- a line that fits, from its beginning on; and one that doesn't
    line_fits : (line others buffer : List ℕ) → unbroken line ≡ true → length line ≤ length buffer
        → made (line ++ others) (short 0) buffer ≡ made others (short (length line)) (line ++ drop (length line) buffer)
    line_fits line others buffer u h =
        let place = zero-add (length line) in
        goes_on line others buffer 0 u (omega arith) ∙ (λ i. made others (short (place i)) (line ++ drop (place i) buffer))

    over-at : (front rest others buffer : List ℕ) (b : ℕ) → unbroken front ≡ true → unbroken (b ∷ rest) ≡ true → length front ≡ length buffer
        → made ((front ++ (b ∷ rest)) ++ others) (short 0) buffer ≡ made others long front
    over-at front rest others buffer b u v e =
        let next = unbroken_first b rest v in
        let filled : front ++ drop (length front) buffer ≡ front = rw (drop_of_length-le buffer {i = length front} (omega arith)) (append-nil front) in
        ap (λ (s : List ℕ). made s (short 0) buffer) (append_assoc front (b ∷ rest) others) ∙
        (line_fits front (b ∷ (rest ++ others)) buffer u (omega arith) ∙
        ((λ i. made (b ∷ (rest ++ others)) (short (e i)) (filled i)) ∙
        (step b (rest ++ others) front (short (length buffer)) long (full_taken (length buffer) b front next.0 (omega arith)) ∙
        (ap (made (rest ++ others) long) (full_kept (length buffer) b front next.0 (omega arith)) ∙
        stays-long rest others front (length buffer) next.1))))

    line_over : (line others buffer : List ℕ) → unbroken line ≡ true → length buffer < length line
        → made (line ++ others) (short 0) buffer ≡ made others long (take (length buffer) line)
    line_over line others buffer u h = by (drop (length buffer) line) refl
      where
        by : (back : List ℕ) → drop (length buffer) line ≡ back
            → made (line ++ others) (short 0) buffer ≡ made others long (take (length buffer) line)
        by [] e = absurd (omega (arith, length-drop (length buffer) line, ap length e))
        by (b ∷ rest) e =
            let front = take (length buffer) line in
            let whole : line ≡ front ++ (b ∷ rest) = sym (take-append-drop (length buffer) line) ∙ ap (front ++◌) e in
            let parts = unbroken-append front (b ∷ rest) (ap unbroken (sym whole) ∙ u) in
            ap (λ (s : List ℕ). made (s ++ others) (short 0) buffer) whole ∙
            over-at front rest others buffer b parts.0 parts.1 (length-take-le (length buffer) line (omega arith))

-- ---- one line

-- the bytes one by one, until the line is whole
unfoldable pub gathered : List ℕ → Taken → List ℕ → Taken × List ℕ
gathered [] state buffer = (state, buffer)
gathered (b ∷ bytes) (Part begun) buffer = gathered bytes (taken begun (length buffer) b) (kept begun buffer b)
gathered (b ∷ bytes) (Line n) buffer = (Line n, buffer)

gathered_step : (b : ℕ) (bytes buffer : List ℕ) (begun next : Begun) → taken begun (length buffer) b ≡ Part next
    → gathered (b ∷ bytes) (Part begun) buffer ≡ gathered bytes (Part next) (kept begun buffer b)
unfolding gathered
gathered_step b bytes buffer begun next e = ap (λ (t : Taken). gathered bytes t (kept begun buffer b)) e

-- behind the line's end nothing is taken
whole_line : (others : List ℕ) (n : Begun) (buffer : List ℕ) → gathered others (Line n) buffer ≡ (Line n, buffer)
unfolding gathered
whole_line [] n buffer = refl
whole_line (b ∷ others) n buffer = refl

-- a line of at most so many bytes as the buffer has, and its LF: it is whole, and stands at the front. Behind it may stand whatever does
pub line-gathered : (line others buffer : List ℕ) → unbroken line ≡ true → length line ≤ length buffer
    → gathered (line ++ (10 ∷ others)) (Part (short 0)) buffer ≡ (Line (short (length line)), line ++ drop (length line) buffer)
unfolding gathered taken longer kept put
line-gathered line others buffer u h =
    line_fits (λ bytes begun. gathered bytes (Part begun)) gathered_step line (10 ∷ others) buffer u h ∙ whole_line others _ _

-- a longer line is known to be so
pub long_line-gathered : (line others buffer : List ℕ) → unbroken line ≡ true → length buffer < length line
    → (gathered (line ++ (10 ∷ others)) (Part (short 0)) buffer).0 ≡ Line long
unfolding gathered taken longer kept put
long_line-gathered line others buffer u h =
    ap (λ (t : Taken × List ℕ). t.0)
    (line_over (λ bytes begun. gathered bytes (Part begun)) gathered_step line (10 ∷ others) buffer u h ∙ whole_line others long _)

-- a last line may lack its LF: what is gathered then is the line so far, or that it is longer than the buffer
pub last_gathered : (line buffer : List ℕ) → unbroken line ≡ true → length line ≤ length buffer
    → gathered line (Part (short 0)) buffer ≡ (Part (short (length line)), line ++ drop (length line) buffer)
unfolding gathered
last_gathered line buffer u h =
    ap (λ (s : List ℕ). gathered s (Part (short 0)) buffer) (sym (append-nil line)) ∙
    line_fits (λ bytes begun. gathered bytes (Part begun)) gathered_step line [] buffer u h

pub long_last_gathered : (line buffer : List ℕ) → unbroken line ≡ true → length buffer < length line
    → gathered line (Part (short 0)) buffer ≡ (Part long, take (length buffer) line)
unfolding gathered
long_last_gathered line buffer u h =
    ap (λ (s : List ℕ). gathered s (Part (short 0)) buffer) (sym (append-nil line)) ∙
    line_over (λ bytes begun. gathered bytes (Part begun)) gathered_step line [] buffer u h

-- ---- all lines

-- a line that is whole is found, as it stands in the buffer, or not where it is longer than that, and the next one begins
unfoldable pub find : Taken → List ℕ → (Begun → List (Option (List ℕ))) → List (Option (List ℕ))
find (Part next) buffer others = others next
find (Line (Some n)) buffer others = Some (take n buffer) ∷ others (short 0)
find (Line None) buffer others = None ∷ others (short 0)

-- the lines that are found in an input, byte by byte
unfoldable pub found : List ℕ → Begun → List ℕ → List (Option (List ℕ))
found [] begun buffer = []
found (b ∷ bytes) begun buffer = find (taken begun (length buffer) b) (kept begun buffer b) (λ next. found bytes next (kept begun buffer b))

found_step : (b : ℕ) (bytes buffer : List ℕ) (begun next : Begun) → taken begun (length buffer) b ≡ Part next
    → found (b ∷ bytes) begun buffer ≡ found bytes next (kept begun buffer b)
unfolding found find
found_step b bytes buffer begun next e =
    ap (λ (t : Taken). find t (kept begun buffer b) (λ (n : Begun). found bytes n (kept begun buffer b))) e

-- lines, each with its LF
unfoldable pub text_of : List (List ℕ) → List ℕ
text_of [] = []
text_of (line ∷ lines) = line ++ (10 ∷ text_of lines)

unfoldable pub all_unbroken : List (List ℕ) → Bool
all_unbroken [] = true
all_unbroken (line ∷ lines) = unbroken line && all_unbroken lines

-- a line, if it has room
unfoldable pub roomy : ℕ → List ℕ → Option (List ℕ)
roomy room line = cond (leb (length line) room) (Some line) None

-- the line, and then what stands behind it
found_line : (line others buffer : List ℕ) (room : ℕ) (rest : List (Option (List ℕ))) → unbroken line ≡ true → length buffer ≡ room
    → ((next : List ℕ) → length next ≡ room → found others (short 0) next ≡ rest)
    → found (line ++ (10 ∷ others)) (short 0) buffer ≡ roomy room line ∷ rest
unfolding roomy found find taken longer kept put
found_line line others buffer room rest u q behind = by (leb (length line) room) refl
  where
    by : (b : Bool) → leb (length line) room ≡ b → found (line ++ (10 ∷ others)) (short 0) buffer ≡ cond b (Some line) None ∷ rest
    by true e =
        let fits : length line ≤ length buffer = omega (arith, leb-true (length line) room e) in
        let front = take_at line (drop (length line) buffer) (length line) refl in
        let size : length (line ++ drop (length line) buffer) ≡ room = omega (arith, length-append line (drop (length line) buffer), length-drop (length line) buffer) in
        let back = behind (line ++ drop (length line) buffer) size in
        line_fits found found_step line (10 ∷ others) buffer u fits ∙ (λ i. Some (front i) ∷ back i)
    by false e =
        let over : length buffer < length line = omega (arith, leb-false (length line) room e) in
        let back = behind (take (length buffer) line) (length-take-le (length buffer) line (omega arith) ∙ q) in
        line_over found found_step line (10 ∷ others) buffer u over ∙ (λ i. None ∷ back i)

-- every line of an input is found, in order
pub lines_found : (lines : List (List ℕ)) (buffer : List ℕ) (room : ℕ) → all_unbroken lines ≡ true → length buffer ≡ room
    → found (text_of lines) (short 0) buffer ≡ map (roomy room) lines
unfolding text_of all_unbroken found
lines_found [] buffer room u q = refl
lines_found (line ∷ lines) buffer room u q =
    let h = and_split (unbroken line) (all_unbroken lines) u in
    found_line line (text_of lines) buffer room (map (roomy room) lines) h.0 q (λ next k. lines_found lines next room h.1 k)

-- ---- the rules

-- so many bytes of rules, and whether a line begins behind them
abbrev pub rules_begun : ℕ → Bool → Rules
rules_begun n fresh = record { length = n; fresh = fresh }

-- the bytes one by one, until the rules are whole
unfoldable pub rules_in : List ℕ → RulesTaken → List ℕ → RulesTaken × List ℕ
rules_in [] state buffer = (state, buffer)
rules_in (b ∷ bytes) (RulesPart rules) buffer = rules_in bytes (rules_taken rules (length buffer) b) (rules_kept rules buffer b)
rules_in (b ∷ bytes) (Whole n) buffer = (Whole n, buffer)
rules_in (b ∷ bytes) TooLong buffer = (TooLong, buffer)

-- no line of the text is empty
unfoldable no_empty : Bool → List ℕ → Bool
no_empty fresh [] = true
no_empty fresh (b ∷ text) = not (eqb b 10 && fresh) && no_empty (eqb b 10) text

-- does a line begin behind the text?
unfoldable fresh_behind : Bool → List ℕ → Bool
fresh_behind fresh [] = fresh
fresh_behind fresh (b ∷ text) = fresh_behind (eqb b 10) text

no_empty-append : (fresh : Bool) (s t : List ℕ) → no_empty fresh (s ++ t) ≡ true
    → (no_empty fresh s ≡ true) × (no_empty (fresh_behind fresh s) t ≡ true)
unfolding no_empty fresh_behind
no_empty-append fresh [] t u = (refl, u)
no_empty-append fresh (b ∷ s) t u =
    let h = and_split (not (eqb b 10 && fresh)) (no_empty (eqb b 10) (s ++ t)) u in
    let others = no_empty-append (eqb b 10) s t h.1 in
    ((rw (h.0, others.0)), others.1)

module _ (n b : ℕ) (fresh : Bool) (bytes buffer : List ℕ) (e : (eqb b 10 && fresh) ≡ false) where
  rules_step : n < length buffer
      → rules_in (b ∷ bytes) (RulesPart (rules_begun n fresh)) buffer ≡ rules_in bytes (RulesPart (rules_begun (n + 1) (eqb b 10))) (set buffer n b)
  unfolding rules_in rules_taken rules_kept
  rules_step h = rw (e, lt-ltb n (length buffer) h)

  rules_full : length buffer ≤ n → rules_in (b ∷ bytes) (RulesPart (rules_begun n fresh)) buffer ≡ rules_in bytes TooLong buffer
  unfolding rules_in rules_taken rules_kept
  rules_full h = rw (e, le-ltb n (length buffer) h)

rules_go_on : (text others buffer : List ℕ) (n : ℕ) (fresh : Bool) → no_empty fresh text ≡ true → n + length text ≤ length buffer
    → rules_in (text ++ others) (RulesPart (rules_begun n fresh)) buffer
    ≡ rules_in others (RulesPart (rules_begun (n + length text) (fresh_behind fresh text))) (with_text n text buffer)
unfolding no_empty fresh_behind
rules_go_on [] others buffer n fresh u h =
    let place = sym (add-zero n) in λ i. rules_in others (RulesPart (rules_begun (place i) fresh)) (with_none n buffer i)
rules_go_on (b ∷ text) others buffer n fresh u h =
    let here = and_split (not (eqb b 10 && fresh)) (no_empty (eqb b 10) text) u in
    let place : n + 1 + length text ≡ n + suc (length text) = omega arith in
    rules_step n b fresh (text ++ others) buffer (not-true (eqb b 10 && fresh) here.0) (omega arith) ∙
    (rules_go_on text others (set buffer n b) (n + 1) (eqb b 10) here.1 (omega (arith, length-set buffer n b)) ∙
    (λ i. rules_in others (RulesPart (rules_begun (place i) (fresh_behind (eqb b 10) text))) (with_more n b text buffer (omega arith) i)))

-- rules that have room, from their beginning on
rules_fit : (text others buffer : List ℕ) → no_empty true text ≡ true → length text ≤ length buffer
    → rules_in (text ++ others) (RulesPart (rules_begun 0 true)) buffer
    ≡ rules_in others (RulesPart (rules_begun (length text) (fresh_behind true text))) (text ++ drop (length text) buffer)
rules_fit text others buffer u h =
    let place = zero-add (length text) in
    rules_go_on text others buffer 0 true u (omega arith) ∙
    (λ i. rules_in others (RulesPart (rules_begun (place i) (fresh_behind true text))) (text ++ drop (place i) buffer))

rules_whole : (others : List ℕ) (n : ℕ) (buffer : List ℕ) → rules_in others (Whole n) buffer ≡ (Whole n, buffer)
unfolding rules_in
rules_whole [] n buffer = refl
rules_whole (b ∷ others) n buffer = refl

rules_long : (others buffer : List ℕ) → (rules_in others TooLong buffer).0 ≡ TooLong
unfolding rules_in
rules_long [] buffer = refl
rules_long (b ∷ others) buffer = refl

-- the lines of rules: none is empty, and none has an LF
unfoldable pub written : List ℕ → Bool
written [] = false
written (b ∷ line) = unbroken (b ∷ line)

unfoldable pub all_written : List (List ℕ) → Bool
all_written [] = true
all_written (line ∷ lines) = written line && all_written lines

line_in_text : (line text : List ℕ) → unbroken line ≡ true
    → (no_empty false (line ++ (10 ∷ text)) ≡ no_empty true text) × (fresh_behind false (line ++ (10 ∷ text)) ≡ fresh_behind true text)
unfolding no_empty fresh_behind
line_in_text [] text u = (refl, refl)
line_in_text (b ∷ line) text u =
    let first = unbroken_first b line u in
    let others = line_in_text line text first.1 in (
      ap (λ (lf : Bool). not (lf && false) && no_empty lf (line ++ (10 ∷ text))) first.0 ∙ others.0,
      ap (λ (lf : Bool). fresh_behind lf (line ++ (10 ∷ text))) first.0 ∙ others.1,
    )

rule_in_text : (line text : List ℕ) → written line ≡ true
    → (no_empty true (line ++ (10 ∷ text)) ≡ no_empty true text) × (fresh_behind true (line ++ (10 ∷ text)) ≡ fresh_behind true text)
unfolding no_empty fresh_behind written
rule_in_text [] text u = absurd (true≢false (sym u))
rule_in_text (b ∷ line) text u =
    let first = unbroken_first b line u in
    let others = line_in_text line text first.1 in (
      ap (λ (lf : Bool). not (lf && true) && no_empty lf (line ++ (10 ∷ text))) first.0 ∙ others.0,
      ap (λ (lf : Bool). fresh_behind lf (line ++ (10 ∷ text))) first.0 ∙ others.1,
    )

rules_in_text : (lines : List (List ℕ)) → all_written lines ≡ true
    → (no_empty true (text_of lines) ≡ true) × (fresh_behind true (text_of lines) ≡ true)
unfolding all_written text_of no_empty fresh_behind
rules_in_text [] u = (refl, refl)
rules_in_text (line ∷ lines) u =
    let h = and_split (written line) (all_written lines) u in
    let here = rule_in_text line (text_of lines) h.0 in
    let others = rules_in_text lines h.1 in
    (here.0 ∙ others.0, here.1 ∙ others.1)

-- lines of rules and an empty line, if there is room for the lines: they are whole, and stand at the front. Behind the empty line may stand
-- whatever does
pub rules_gathered : (lines : List (List ℕ)) (others buffer : List ℕ) → all_written lines ≡ true → length (text_of lines) ≤ length buffer
    → rules_in (text_of lines ++ (10 ∷ others)) (RulesPart (rules_begun 0 true)) buffer
    ≡ (Whole (length (text_of lines)), text_of lines ++ drop (length (text_of lines)) buffer)
unfolding rules_in rules_taken rules_kept
rules_gathered lines others buffer u h =
    let told = rules_in_text lines u in
    let text = text_of lines in
    let full = text ++ drop (length text) buffer in
    rules_fit text (10 ∷ others) buffer told.0 h ∙
    (ap (λ (fresh : Bool). rules_in (10 ∷ others) (RulesPart (rules_begun (length text) fresh)) full) told.1 ∙ rules_whole others (length text) full)

-- a text that fills the buffer, and a byte behind it that doesn't end the rules
rules_over : (front rest buffer : List ℕ) (b : ℕ) → no_empty true front ≡ true → (eqb b 10 && fresh_behind true front) ≡ false
    → length front ≡ length buffer → (rules_in (front ++ (b ∷ rest)) (RulesPart (rules_begun 0 true)) buffer).0 ≡ TooLong
rules_over front rest buffer b u v e =
    let full = front ++ drop (length front) buffer in
    let size : length full ≤ length front = omega (arith, length-append front (drop (length front) buffer), length-drop (length front) buffer) in
    ap (λ (t : RulesTaken × List ℕ). t.0)
    (rules_fit front (b ∷ rest) buffer u (omega arith) ∙ rules_full (length front) b (fresh_behind true front) rest full v size) ∙ rules_long rest full

first_goes : (b : ℕ) (fresh : Bool) (text : List ℕ) → no_empty fresh (b ∷ text) ≡ true → (eqb b 10 && fresh) ≡ false
unfolding no_empty
first_goes b fresh text u = not-true (eqb b 10 && fresh) (and_split (not (eqb b 10 && fresh)) (no_empty (eqb b 10) text) u).0

-- without room for them they are too long, as soon as there is no room for a byte
pub long_rules_gathered : (lines : List (List ℕ)) (others buffer : List ℕ) → all_written lines ≡ true → length buffer < length (text_of lines)
    → (rules_in (text_of lines ++ (10 ∷ others)) (RulesPart (rules_begun 0 true)) buffer).0 ≡ TooLong
long_rules_gathered lines others buffer u h = by (drop (length buffer) text) refl
  where
    text : List ℕ
    text = text_of lines

    by : (back : List ℕ) → drop (length buffer) text ≡ back
        → (rules_in (text_of lines ++ (10 ∷ others)) (RulesPart (rules_begun 0 true)) buffer).0 ≡ TooLong
    by [] e = absurd (omega (arith, length-drop (length buffer) text, ap length e))
    by (b ∷ rest) e =
        let front = take (length buffer) text in
        let whole : text ≡ front ++ (b ∷ rest) = sym (take-append-drop (length buffer) text) ∙ ap (front ++◌) e in
        let all : text ++ (10 ∷ others) ≡ front ++ (b ∷ (rest ++ (10 ∷ others))) = ap (◌++ (10 ∷ others)) whole ∙ append_assoc front (b ∷ rest) (10 ∷ others) in
        let parts = no_empty-append true front (b ∷ rest) (ap (no_empty true) (sym whole) ∙ (rules_in_text lines u).0) in
        ap (λ (s : List ℕ). (rules_in s (RulesPart (rules_begun 0 true)) buffer).0) all ∙
        rules_over front (rest ++ (10 ∷ others)) buffer b parts.0 (first_goes b (fresh_behind true front) rest parts.1)
        (length-take-le (length buffer) text (omega arith))
