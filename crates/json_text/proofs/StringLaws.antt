-- Laws of strings: a string from a place on, piece by piece. Assumes nothing.
use Prim.Native.Nat.{ℕ, zero, suc, ◌+◌, ◌-◌, ◌≤◌, ◌<◌}
use native.Mathlib.Nat.{zero-add, add_assoc}
use native.Mathlib.Omega.{arith}
use mathlib.Core.Path.{◌≡◌, refl, sym, ap, ◌∙◌}
use mathlib.Core.Bool.{Bool, true, false, ◌&&◌, and_assoc, and-false}
use mathlib.Core.List.{List, [], ◌∷◌, ◌++◌, append_assoc}
use Rattle.std.specs.Prelude.{Option, None, Some, Ok, Err}
use Rattle.std.proofs.lemmas.Option.{same_Some, none-some}
use lib.Dec.{eqb, ltb, eqb-zero-suc, eqb-suc-suc}
use lib.ListN.{length, get_or, take, drop, length-append, drop_of_length-le}
use lib.Seq.{drop-cons, drop-drop, length-take-le}
use borrow.Author.Tests.{eq-eqb, ne_eqb, eqb-true, eqb-false, ltb-true, ltb-false, le-leb, lt-leb}
use Rattle.text.specs.Text.{same, begins}
use Rattle.json_text.specs.Utf8.{utf8}
use Rattle.json_text.specs.Strings.{quote, Decoded, piece_of, grown, string_from, string_at}
use Rattle.text.specs.Text.{pasted}
use Rattle.text.proofs.Laws.{Wrote, wrote_none, wrote_lengths, wrote_part, wrote_all, pasted_fits, written_too_long}
use Rattle.json_text.specs.Json.{is_at}
use Rattle.json_text.specs.Access.{scanned, string_is, Fits, copied, decoded_into}
use Rattle.json_text.specs.declared.Piece.TheVariants.{Closes, Raw, Escaped}
use Rattle.json_text.proofs.Utf8Laws.{byte_at_lem, byte_past}
use Rattle.json_text.proofs.PieceLaws.{raw_size, escaped_size}
use Rattle.json_text.specs.declared.DecodeError.TheVariants.{NoText, TooLong}
use Rattle.json_text.specs.declared.Read.{Read}

-- a text and so many bytes before a string
unfoldable pub ahead : List ℕ → ℕ → Option Decoded → Option Decoded
ahead t n None = None
ahead t n (Some d) = Some (record { text = t ++ d.text; size = n + d.size })

pub ahead_nothing : (o : Option Decoded) → o ≡ ahead [] 0 o
unfolding ahead
ahead_nothing None = refl
ahead_nothing (Some d) = ap (λ (k : ℕ). Some (record { text = d.text; size = k })) (sym (zero-add d.size))

grown-ahead : (t : List ℕ) (n : ℕ) (o : Option Decoded) → grown t (ahead [] n o) ≡ ahead t (suc n) o
unfolding ahead grown
grown-ahead t n None = refl
grown-ahead t n (Some d) = ap (λ (k : ℕ). Some (record { text = t ++ d.text; size = k })) (omega arith)

-- two texts before a string
pub ahead-ahead : (t : List ℕ) (n : ℕ) (u : List ℕ) (m : ℕ) (o : Option Decoded) → ahead t n (ahead u m o) ≡ ahead (t ++ u) (n + m) o
unfolding ahead
ahead-ahead t n u m None = refl
ahead-ahead t n u m (Some d) =
    let texts = sym (append_assoc t u d.text) in
    let sizes = sym (add_assoc n m d.size) in
    λ i. Some (record { text = texts i; size = sizes i })

-- skipping is dropping
skipped : (k : ℕ) (s : List ℕ) → string_from k s ≡ ahead [] k (string_from zero (drop k s))
unfolding string_from ahead
skipped zero s = ahead_nothing (string_from zero s)
skipped (suc k) [] = refl
skipped (suc k) (b ∷ s) = ap (grown []) (skipped k s) ∙ grown-ahead [] k (string_from zero (drop k s))

-- a string from a place on, by the piece that stands there
module _ (line : List ℕ) (i : ℕ) (h : i < length line) where
  rest_here : (n : ℕ) → 1 ≤ n → (t : List ℕ) → grown t (string_from (n - 1) (drop (suc i) line)) ≡ ahead t n (string_from zero (drop (i + n) line))
  rest_here zero k t = elim k [ ]
  rest_here (suc n) k t =
      ap (grown t) (ap (λ (m : ℕ). string_from m (drop (suc i) line)) less ∙ (skipped n (drop (suc i) line) ∙ ap (λ (l : List ℕ). ahead [] n (string_from zero l)) (drop-drop n (suc i) line ∙ ap (λ (m : ℕ). drop m line) next)))
      ∙ grown-ahead t n (string_from zero (drop (i + suc n) line))
    where
      less : suc n - 1 ≡ n
      less = omega arith

      next : suc i + n ≡ i + suc n
      next = omega arith

  opened : drop i line ≡ get_or line i 0 ∷ drop (suc i) line
  opened = drop-cons line i 0 h

  pub string_closes : piece_of (drop i line) ≡ Some Closes → string_from zero (drop i line) ≡ Some (record { text = []; size = 1 })
  unfolding string_from
  string_closes e = rw opened (rw (rw opened at e, string_from))

  pub string_raw : (n : ℕ) → piece_of (drop i line) ≡ Some (Raw n) → string_from zero (drop i line) ≡ ahead (take n (drop i line)) n (string_from zero (drop (i + n) line))
  unfolding string_from
  string_raw n e =
      rw opened
      (rw (rw opened at e, string_from) (rest_here n (raw_size (drop i line) n e).0 (take n (get_or line i 0 ∷ drop (suc i) line))))

  pub string_escaped : (c n : ℕ) → piece_of (drop i line) ≡ Some (Escaped c n) → string_from zero (drop i line) ≡ ahead (utf8 c) n (string_from zero (drop (i + n) line))
  unfolding string_from
  string_escaped c n e = rw opened (rw (rw opened at e, string_from) (rest_here n (escaped_size (drop i line) c n e).0 (utf8 c)))

  pub string_bad : piece_of (drop i line) ≡ None → string_from zero (drop i line) ≡ None
  unfolding string_from
  string_bad e = rw opened (rw (rw opened at e, string_from))

-- nothing is left
pub string_nothing : (line : List ℕ) (i : ℕ) → length line ≤ i → string_from zero (drop i line) ≡ None
unfolding string_from
string_nothing line i h = rw (drop_of_length-le line {i = i} h)

-- the string behind an opening quote, and where there is none
pub string_opens : (line : List ℕ) (at : ℕ) → at < length line → get_or line at 0 ≡ quote → string_at line at ≡ string_from zero (drop (at + 1) line)
unfolding string_at
string_opens line at h e = rw (byte_at_lem line at h, eq-eqb (get_or line at 0) quote e)

pub string_absent : (line : List ℕ) (at : ℕ) → at < length line → (get_or line at 0 ≡ quote → ⊥) → string_at line at ≡ None
unfolding string_at
string_absent line at h e = rw (byte_at_lem line at h, ne_eqb (get_or line at 0) quote e)

pub string_past : (line : List ℕ) (at : ℕ) → length line ≤ at → string_at line at ≡ None
unfolding string_at
string_past line at h = rw (byte_past line at h)

-- by the test for the quote
pub quote_opens : (line : List ℕ) (at : ℕ) → is_at line at quote ≡ true → string_at line at ≡ string_from zero (drop (at + 1) line)
unfolding string_at is_at
quote_opens line at e = rw e

pub quote_absent : (line : List ℕ) (at : ℕ) → is_at line at quote ≡ false → string_at line at ≡ None
unfolding string_at is_at
quote_absent line at e = rw e

-- the answer of a scan that stands at `i` and has decoded `n` bytes
unfoldable pub scanned_to : ℕ → ℕ → Option Decoded → Option (Read ℕ)
scanned_to i n None = None
scanned_to i n (Some d) = Some (record { value = n + length d.text; next = i + d.size })

pub scan_begins : (at : ℕ) (o : Option Decoded) → scanned at o ≡ scanned_to (at + 1) 0 o
unfolding scanned scanned_to
scan_begins at None = refl
scan_begins at (Some d) = ap (λ (k : ℕ). Some (record { value = k; next = at + 1 + d.size })) (sym (zero-add (length d.text)))

pub scan_ahead : (i n : ℕ) (t : List ℕ) (m : ℕ) (o : Option Decoded) → scanned_to i n (ahead t m o) ≡ scanned_to (i + m) (n + length t) o
unfolding scanned_to ahead
scan_ahead i n t m None = refl
scan_ahead i n t m (Some d) = λ k. Some (record { value = second k; next = first k })
  where
    first : i + (m + d.size) ≡ i + m + d.size
    first = omega arith

    second : n + length (t ++ d.text) ≡ n + length t + length d.text
    second = omega (arith, length-append t d.text)

-- is the text from a place on what is left of the string?
unfoldable pub is_rest : List ℕ → Option Decoded → Bool
is_rest t None = false
is_rest t (Some d) = same d.text t

pub is_begins : (line : List ℕ) (at : ℕ) (t : List ℕ) → string_is line at t ≡ is_rest t (string_at line at)
unfolding string_is is_rest
is_begins line at t = is (string_at line at)
  where
    is : (o : Option Decoded) → elim o as (λ _. Bool) [ None ↦ false | Some d ↦ same d.text t ] ≡ is_rest t o
    is None = refl
    is (Some d) = refl

same_append : (p q t : List ℕ) → same (p ++ q) t ≡ (begins p t && same q (drop (length p) t))
unfolding same begins
same_append [] q t = refl
same_append (a ∷ p) q [] = refl
same_append (a ∷ p) q (b ∷ t) = rw (same_append p q t) (sym (and_assoc (eqb a b) (begins p t) (same q (drop (length p) t))))

pub rest_ahead : (t p : List ℕ) (m : ℕ) (o : Option Decoded) {b : Bool} → begins p t ≡ b → is_rest t (ahead p m o) ≡ (b && is_rest (drop (length p) t) o)
unfolding is_rest ahead
rest_ahead t p m None {b} e = sym (and-false b)
rest_ahead t p m (Some d) e = same_append p d.text t ∙ (λ i. e i && same d.text (drop (length p) t))

-- a scan, piece by piece
module _ (line : List ℕ) (i : ℕ) (h : i < length line) (n : ℕ) where
  pub scan_closes : piece_of (drop i line) ≡ Some Closes → scanned_to i n (string_from zero (drop i line)) ≡ Some (record { value = n; next = i + 1 })
  unfolding scanned_to
  scan_closes e = ap (scanned_to i n) (string_closes line i h e) ∙ ap (λ (k : ℕ). Some (record { next = (i + 1); value = k })) (omega arith)

  pub scan_raw :
      (m : ℕ) → piece_of (drop i line) ≡ Some (Raw m) → scanned_to i n (string_from zero (drop i line)) ≡ scanned_to (i + m) (n + m) (string_from zero (drop (i + m) line))
  scan_raw m e =
      ap (scanned_to i n) (string_raw line i h m e)
      ∙ (scan_ahead i n (take m (drop i line)) m _
      ∙ ap (λ (k : ℕ). scanned_to (i + m) (n + k) (string_from zero (drop (i + m) line))) (length-take-le m (drop i line) (raw_size (drop i line) m e).1))

  pub scan_escaped :
      (c m : ℕ) {k : ℕ} → k ≡ length (utf8 c) → piece_of (drop i line) ≡ Some (Escaped c m)
      → scanned_to i n (string_from zero (drop i line)) ≡ scanned_to (i + m) (n + k) (string_from zero (drop (i + m) line))
  scan_escaped c m {k} f e =
      ap (scanned_to i n) (string_escaped line i h c m e)
      ∙ (scan_ahead i n (utf8 c) m _ ∙ ap (λ (j : ℕ). scanned_to (i + m) (n + j) (string_from zero (drop (i + m) line))) (sym f))

  pub scan_bad : piece_of (drop i line) ≡ None → scanned_to i n (string_from zero (drop i line)) ≡ None
  unfolding scanned_to
  scan_bad e = ap (scanned_to i n) (string_bad line i h e)

-- nothing is left of a text exactly at its end
nothing_left : (t : List ℕ) (j : ℕ) → j ≤ length t → same [] (drop j t) ≡ eqb j (length t)
unfolding same
nothing_left [] zero k = refl
nothing_left [] (suc j) k = absurd (omega arith)
nothing_left (b ∷ t) zero k = sym (eqb-zero-suc (length t))
nothing_left (b ∷ t) (suc j) k = nothing_left t j (omega arith) ∙ sym (eqb-suc-suc j (length t))

-- a comparison, piece by piece
module _ (line : List ℕ) (i : ℕ) (h : i < length line) (t : List ℕ) (j : ℕ) (k : j ≤ length t) where
  pub is_closes : piece_of (drop i line) ≡ Some Closes → is_rest (drop j t) (string_from zero (drop i line)) ≡ eqb j (length t)
  unfolding is_rest
  is_closes e = ap (is_rest (drop j t)) (string_closes line i h e) ∙ nothing_left t j k

  pub is_raw :
      (m : ℕ) {b : Bool} → piece_of (drop i line) ≡ Some (Raw m) → begins (take m (drop i line)) (drop j t) ≡ b
      → is_rest (drop j t) (string_from zero (drop i line)) ≡ (b && is_rest (drop (j + m) t) (string_from zero (drop (i + m) line)))
  is_raw m {b} e f =
      ap (is_rest (drop j t)) (string_raw line i h m e)
      ∙ (rest_ahead (drop j t) (take m (drop i line)) m _ f
      ∙ ap (λ (l : List ℕ). b && is_rest l (string_from zero (drop (i + m) line)))
      (ap (λ (n : ℕ). drop n (drop j t)) (length-take-le m (drop i line) (raw_size (drop i line) m e).1) ∙ drop-drop m j t))

  pub is_escaped :
      (c m : ℕ) {n : ℕ} {b : Bool} → n ≡ length (utf8 c) → piece_of (drop i line) ≡ Some (Escaped c m) → begins (utf8 c) (drop j t) ≡ b
      → is_rest (drop j t) (string_from zero (drop i line)) ≡ (b && is_rest (drop (j + n) t) (string_from zero (drop (i + m) line)))
  is_escaped c m {n} {b} g e f =
      ap (is_rest (drop j t)) (string_escaped line i h c m e)
      ∙ (rest_ahead (drop j t) (utf8 c) m _ f
      ∙ ap (λ (l : List ℕ). b && is_rest l (string_from zero (drop (i + m) line))) (ap (λ (o : ℕ). drop o (drop j t)) (sym g) ∙ drop-drop n j t))

  pub is_bad : piece_of (drop i line) ≡ None → is_rest (drop j t) (string_from zero (drop i line)) ≡ false
  unfolding is_rest
  is_bad e = ap (is_rest (drop j t)) (string_bad line i h e)

-- a string with a text ahead of it
pub record Ahead (t : List ℕ) (m : ℕ) (o : Option Decoded) (e : Decoded) : Type 0 where
  pub left : Decoded
  pub found : o ≡ Some left
  pub text : e.text ≡ t ++ left.text

pub ahead-some : (t : List ℕ) (m : ℕ) (o : Option Decoded) (e : Decoded) → ahead t m o ≡ Some e → Ahead t m o e
unfolding ahead
ahead-some t m None e f = absurd (none-some e f)
ahead-some t m (Some d) e f = record { left = d; found = refl; text = sym (ap (λ (x : Decoded). x.text) (same_Some _ e f)) }

-- a buffer into which the first `n` bytes of a string's text are written, of which `rest` is left
pub record Writing (whole rest : Option Decoded) (before buffer : List ℕ) (n : ℕ) : Type 0 where
  pub all : Decoded
  pub left : Decoded
  pub is_all : whole ≡ Some all
  pub is_left : rest ≡ Some left
  pub wrote : Wrote all.text before buffer left.text n

pub writing_begins : (o rest : Option Decoded) (buffer : List ℕ) → o ≡ rest → Fits (length buffer) o → Writing o rest buffer buffer 0
writing_begins None rest buffer e h = absurd h
writing_begins (Some d) rest buffer e h = record { all = d; left = d; is_all = refl; is_left = sym e; wrote = wrote_none d.text buffer h }

pub writing_next_room :
    {whole : Option Decoded} {before buffer : List ℕ} {n : ℕ} (rest : Option Decoded) (t : List ℕ) (m : ℕ) (o : Option Decoded) →
    rest ≡ ahead t m o →
    Writing whole rest before buffer n →
    n + length t ≤ length buffer
writing_next_room {before = before} {buffer = buffer} {n = n} rest t m o e w =
    let h = ahead-some t m o w.left (sym e ∙ w.is_left) in
    let now-part : Wrote w.all.text before buffer (t ++ h.left.text) n = rw h.text at w.wrote in
    let lengths = wrote_lengths now-part in
    omega (arith, length-append t h.left.text)

-- one piece more
pub writing_part :
    {whole : Option Decoded} {before buffer : List ℕ} {n : ℕ} (rest : Option Decoded) (t : List ℕ) (m : ℕ) (o : Option Decoded) →
    rest ≡ ahead t m o →
    Writing whole rest before buffer n →
    Writing whole o before (pasted n t buffer) (n + length t)
writing_part {before = before} {buffer = buffer} {n = n} rest t m o e w =
    let h = ahead-some t m o w.left (sym e ∙ w.is_left) in
    let now-part : Wrote w.all.text before buffer (t ++ h.left.text) n = rw h.text at w.wrote in
    let lengths = wrote_lengths now-part in
    record {
      all = w.all;
      left = h.left;
      is_all = w.is_all;
      is_left = h.found;
      wrote = rw (pasted_fits n t buffer (omega (arith, length-append t h.left.text))) (wrote_part t now-part);
    }

pub writing_ends :
    {whole rest : Option Decoded} {before buffer : List ℕ} {n : ℕ} →
    rest ≡ Some (record { text = []; size = 1 }) →
    Writing whole rest before buffer n →
    buffer ≡ decoded_into before whole
unfolding decoded_into
writing_ends {before = before} {buffer = buffer} {n = n} e w =
    let none_left : w.left.text ≡ [] = ap (λ (x : Decoded). x.text) (same_Some w.left (record { text = []; size = 1 }) (sym w.is_left ∙ e)) in
    let done : Wrote w.all.text before buffer [] n = rw none_left at w.wrote in
    rw w.is_all (wrote_all done)

pub writing-length : {whole rest : Option Decoded} {before buffer : List ℕ} {n : ℕ} → Writing whole rest before buffer n → length buffer ≡ length before
writing-length w = (wrote_lengths w.wrote).0

-- a string that was scanned is there, and is as long as was said
pub record Found (o : Option Decoded) (n : ℕ) : Type 0 where
  pub string : Decoded
  pub is : o ≡ Some string
  pub long : length string.text ≡ n

pub scanned-text : (at : ℕ) (o : Option Decoded) (r : Read ℕ) → scanned at o ≡ Some r → Found o r.value
unfolding scanned
scanned-text at None r e = absurd (none-some r e)
scanned-text at (Some d) r e = record { string = d; is = refl; long = ap (λ (x : Read ℕ). x.value) (same_Some _ r e) }

pub scanned_bad : (at : ℕ) (o : Option Decoded) → scanned at o ≡ None → o ≡ None
unfolding scanned
scanned_bad at None e = refl
scanned_bad at (Some d) e = let z : ◌≡◌ {A = ℕ} 0 1 = cc in absurd (omega arith)

-- where a string fits, one is opened
pub record Opened (line : List ℕ) (at : ℕ) : Type 0 where
  pub within : at < length line
  pub behind : string_at line at ≡ string_from zero (drop (at + 1) line)

pub fits_opens : (room : ℕ) (line : List ℕ) (at : ℕ) → Fits room (string_at line at) → Opened line at
fits_opens room line at f = within (ltb at (length line)) refl
  where
    quoted : at < length line → (b : Bool) → eqb (get_or line at 0) quote ≡ b → Opened line at
    quoted h true e = record { within = h; behind = string_opens line at h (eqb-true _ _ e) }
    quoted h false e = absurd (rw (string_absent line at h (eqb-false _ _ e)) at f)

    within : (b : Bool) → ltb at (length line) ≡ b → Opened line at
    within true e = quoted (ltb-true _ _ e) (eqb (get_or line at 0) quote) refl
    within false e = absurd (rw (string_past line at (ltb-false _ _ e)) at f)

-- a writer, piece by piece
module _ (line : List ℕ) (i : ℕ) (h : i < length line) {whole : Option Decoded} {before buffer : List ℕ} {n : ℕ} (w : Writing whole (string_from zero (drop i line)) before buffer n) where
  pub write_raw_room : (m : ℕ) → piece_of (drop i line) ≡ Some (Raw m) → n + m ≤ length buffer
  write_raw_room m e =
      omega (arith, writing_next_room _ (take m (drop i line)) m _ (string_raw line i h m e) w, length-take-le m (drop i line) (raw_size (drop i line) m e).1)

  pub write_raw :
      (m : ℕ) {after : List ℕ} → piece_of (drop i line) ≡ Some (Raw m) → after ≡ pasted n (take m (drop i line)) buffer
      → Writing whole (string_from zero (drop (i + m) line)) before after (n + m)
  write_raw m e f =
      rw (f, sym (ap (λ (k : ℕ). n + k) (length-take-le m (drop i line) (raw_size (drop i line) m e).1)))
      (writing_part _ (take m (drop i line)) m _ (string_raw line i h m e) w)

  pub write_escaped_room : (c m : ℕ) → piece_of (drop i line) ≡ Some (Escaped c m) → n + length (utf8 c) ≤ length buffer
  write_escaped_room c m e = writing_next_room _ (utf8 c) m _ (string_escaped line i h c m e) w

  pub write_escaped :
      (c m : ℕ) {k : ℕ} {after : List ℕ} → piece_of (drop i line) ≡ Some (Escaped c m) → k ≡ length (utf8 c) → after ≡ pasted n (utf8 c) buffer
      → Writing whole (string_from zero (drop (i + m) line)) before after (n + k)
  write_escaped c m e g f = rw (f, g) (writing_part _ (utf8 c) m _ (string_escaped line i h c m e) w)

pub writing_stops : {whole rest : Option Decoded} {before buffer : List ℕ} {n : ℕ} → rest ≡ None → Writing whole rest before buffer n → ⊥
writing_stops e w = none-some w.left (sym e ∙ w.is_left)

-- what `decode` answers, by what a scan found
pub copied_none : (room : ℕ) (buffer : List ℕ) (o : Option Decoded) → o ≡ None → (Err NoText ≡ copied room o) × (buffer ≡ decoded_into buffer o)
unfolding copied decoded_into
copied_none room buffer o e = rw e (refl, refl)

pub copied_over : (buffer : List ℕ) (o : Option Decoded) (n : ℕ) → Found o n → length buffer < n → (Err TooLong ≡ copied (length buffer) o) × (buffer ≡ decoded_into buffer o)
unfolding copied decoded_into
copied_over buffer o n f h =
    let far : length buffer < length f.string.text = omega (arith, f.long) in
    rw f.is (rw (lt-leb (length f.string.text) (length buffer) far), sym (written_too_long f.string.text buffer far))

pub copied_fits : (room : ℕ) (o : Option Decoded) (n : ℕ) → Found o n → n ≤ room → Ok n ≡ copied room o
unfolding copied
copied_fits room o n f h = rw (f.is, le-leb (length f.string.text) room (omega (arith, f.long)), f.long)

pub found-fits : (room : ℕ) (o : Option Decoded) (n : ℕ) → Found o n → n ≤ room → Fits room o
found-fits room o n f h = let e : o ≡ Some f.string = f.is in rw e (omega (arith, f.long))
