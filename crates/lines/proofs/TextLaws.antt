-- A decoded string is no longer than its line. Assumes nothing.
use Prim.Native.Nat.{ℕ, zero, suc, ◌+◌, ◌-◌, ◌≤◌}
use native.Mathlib.Omega.{arith}
use mathlib.Core.Path.{◌≡◌, refl, ap}
use mathlib.Core.List.{List, [], ◌∷◌, ◌++◌}
use Rattle.std.specs.Prelude.{Option, None, Some}
use Rattle.std.proofs.lemmas.Option.{none-some}
use lib.ListN.{length, take, drop, length-append, length-take, length-drop}
use Rattle.json_text.specs.Utf8.{utf8}
use Rattle.json_text.specs.Strings.{Decoded, grown, string_at, piece_of, string_from as bytes_from}
use Rattle.json_text.specs.declared.Piece.{Piece}
use Rattle.json_text.specs.declared.Piece.TheVariants.{Closes, Raw, Escaped}
use Rattle.json_text.proofs.ScanLaws.{string_within}
use Rattle.json_text.proofs.PieceLaws.{escaped_size, escaped_shrinks}

grown-text : (t : List ℕ) (o : Option Decoded) {d : Decoded} → grown t o ≡ Some d → (e : Decoded) × (o ≡ Some e) × (d.text ≡ t ++ e.text)
unfolding grown
grown-text t None q = absurd (none-some _ q)
grown-text t (Some e) q = (e, refl, cc)

text_from : (k : ℕ) (s : List ℕ) {d : Decoded} → bytes_from k s ≡ Some d → length d.text + k ≤ length s
unfolding bytes_from
text_from k [] q = absurd (none-some _ q)
text_from (suc k) (b ∷ s) q =
    let g = grown-text [] (bytes_from k s) q in
    let h = text_from k s g.1 in
    omega (arith, ap length g.2)
text_from zero (b ∷ s) {d} q = by (piece_of (b ∷ s)) refl q (λ (k : ℕ) (e : Decoded) (r : bytes_from k s ≡ Some e). text_from k s r)
  where
    by : (p : Option Piece) → piece_of (b ∷ s) ≡ p
        → elim p [
          | Some Closes ↦ Some (record { text = []; size = 1 })
          | Some (Raw n) ↦ grown (take n (b ∷ s)) (bytes_from (n - 1) s)
          | Some (Escaped c n) ↦ grown (utf8 c) (bytes_from (n - 1) s)
          | None ↦ None
        ] ≡ Some d
        → ((k : ℕ) (e : Decoded) → bytes_from k s ≡ Some e → length e.text + k ≤ length s)
        → length d.text + 0 ≤ suc (length s)
    by (Some Closes) p q f = let none_left : [] ≡ d.text = cc in omega (arith, ap length none_left)
    by (Some (Raw n)) p q f =
        let g = grown-text (take n (b ∷ s)) (bytes_from (n - 1) s) q in
        let h = f (n - 1) g.0 g.1 in
        omega (arith, ap length g.2, length-append (take n (b ∷ s)) g.0.text, length-take n (b ∷ s))
    by (Some (Escaped c n)) p q f =
        let g = grown-text (utf8 c) (bytes_from (n - 1) s) q in
        let h = f (n - 1) g.0 g.1 in
        omega (arith, ap length g.2, length-append (utf8 c) g.0.text, escaped_shrinks (b ∷ s) c n p, escaped_size (b ∷ s) c n p)
    by None p q f = absurd (none-some _ q)

pub text_short : (line : List ℕ) (at : ℕ) {d : Decoded} → string_at line at ≡ Some d → length d.text ≤ length line
text_short line at q =
    let h = string_within line at q in
    omega (arith, text_from zero (drop (at + 1) line) h.1, length-drop (at + 1) line)
