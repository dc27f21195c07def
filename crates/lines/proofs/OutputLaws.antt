-- Laws of `specs/Output.antt`: a line of output is put together piece by piece. Assumes nothing.
use Prim.Native.Nat.{ℕ, ◌+◌, ◌≤◌}
use native.Mathlib.Omega.{arith}
use mathlib.Core.Path.{◌≡◌, sym, ap, ◌∙◌}
use mathlib.Core.List.{List, [], ◌∷◌, ◌++◌, append_assoc}
use lib.ListN.{length, take, length-append}
use lib.Seq.{take_at, length-take-le}
use Rattle.text.specs.Text.{pasted}
use Rattle.text.proofs.Laws.{pasted_fits}
use Rattle.lines.specs.declared.Said.{Said}
use Rattle.lines.specs.Output.{decimal, word_text, blank, line_text, output_line}

-- a piece that is pasted behind the text at the front of a buffer of 80 bytes
module _ (bytes piece : List ℕ) (n : ℕ) {text : List ℕ} (size : length bytes ≡ 80) (within : n ≤ 80) (t : take n bytes ≡ text)
    (room : length text + length piece ≤ 80) where
  place : length (take n bytes) ≡ n
  place = length-take-le n bytes (omega (arith, size, within))

  pub piece_pasted : {after : List ℕ} → after ≡ pasted n piece bytes → take (n + length piece) after ≡ text ++ piece
  piece_pasted q =
      let fits = pasted_fits n piece bytes (omega (arith, size, room, place, ap length t)) in
      ap (take (n + length piece)) (q ∙ (fits ∙ sym (append_assoc (take n bytes) piece _)))
      ∙ (take_at (take n bytes ++ piece) _ (n + length piece) (omega (arith, place, length-append (take n bytes) piece)) ∙ ap (λ (t : List ℕ). t ++ piece) t)

-- all pieces are the line of output
pub all_pieces : (n : ℕ) (said : Said)
    → (((((decimal n ++ blank) ++ word_text said.word) ++ blank) ++ decimal said.number) ++ line_text said.line) ++ (10 ∷ []) ≡ output_line n said
unfolding output_line
all_pieces n said = simp append_assoc
