-- A file's name is six bytes of ASCII, so it is text. Assumes nothing.
use Rattle.std.proofs.Common.{ℕ, ◌<◌, List, [], ◌∷◌, arith, rules, refl, Result, Ok, Err}
use Rattle.std.specs.Result.{IsOk, MatchResult}
use Rattle.std.specs.Str.{IsUtf8, IsAscii}
use Rattle.std.proofs.lemmas.Str.{IsUtf8-from_ascii}
use Rattle.std.proofs.lemmas.Str.Ascii.{IsAscii-nil, IsAscii-cons}
use Rattle.replays.proofs.replay.Goals as goal

-- two bytes and `.txt` are text, where the two are ASCII
named : (tens ones : ℕ) → tens < 128 → ones < 128 → IsUtf8 (tens ∷ ones ∷ 46 ∷ 116 ∷ 120 ∷ 116 ∷ [])
named tens ones t o =
    let txt : IsAscii (46 ∷ 116 ∷ 120 ∷ 116 ∷ []) = search (rules, IsAscii-cons, IsAscii-nil) in
    IsUtf8-from_ascii (tens ∷ ones ∷ 46 ∷ 116 ∷ 120 ∷ 116 ∷ []) (IsAscii-cons tens (ones ∷ 46 ∷ 116 ∷ 120 ∷ 116 ∷ []) t (IsAscii-cons ones (46 ∷ 116 ∷ 120 ∷ 116 ∷ []) o txt))

-- where the error says that it is no text, text is read
reads : {T E : Type 0} (r : Result T E) (bs : List ℕ) (P : T → Type 0) (Q : E → Type 0) → MatchResult r P (λ e. (IsUtf8 bs → ⊥) × Q e) → IsUtf8 bs → IsOk r
reads (Ok x) bs P Q m u = refl
reads (Err e) bs P Q m u = absurd (m.0 u)

pub unwrap-requires : goal.unwrap-requires
unwrap-requires g c = reads c.from_utf8.result _ _ _ c.from_utf8.ensures.cases (named _ _ (omega arith) (omega arith))
