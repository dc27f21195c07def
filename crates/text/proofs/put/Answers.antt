-- `text::put` meets its contract. The loop's invariant: `i` is at most the source's length, and the buffer is what it was with the first `i`
-- bytes of the source from `at` on (`paste` of lib.Seq). The measure is what is left of the source's length. Assumes nothing.
use Prim.Native.Nat.{ℕ, ◌+◌}
use mathlib.Core.Path.{◌≡◌, refl, ◌∙◌}
use mathlib.Core.List.{List, ◌++◌, append_assoc}
use native.Mathlib.Omega.{arith}
use native.Mathlib.Numerals.{add-one}
use lib.ListN.{length, take, drop, length-set}
use lib.Seq.{paste, paste-zero, paste-suc, take-length}
use Rattle.text.proofs.put.Goals as goal

-- the whole source, copied
whole : (buffer : List ℕ) (at : ℕ) (source : List ℕ)
    → paste buffer at source (length source) ≡ take at buffer ++ (source ++ drop (at + length source) buffer)
whole buffer at source = rw (take-length source) (append_assoc (take at buffer) source _)

pub loop-i-init : goal.loop-i-init
loop-i-init c =
    (omega arith, refl, paste-zero _ c.args.at c.args.source.now)

pub loop-i-preserved : goal.loop-i-preserved
loop-i-preserved c =
    let step = paste-suc c.args.buffer.now c.args.at c.args.source.now c.loop-i.i 0 (omega arith) (omega arith) in
    (omega arith, simp length-set (omega arith), rw (c.loop-i.invariant.2, add-one c.loop-i.i) step)

pub returns : goal.returns
returns c =
    let all : c.loop-i.i ≡ length c.args.source.now = omega arith in
    c.loop-i.invariant.2 ∙ rw all (whole c.args.buffer.now c.args.at c.args.source.now)
