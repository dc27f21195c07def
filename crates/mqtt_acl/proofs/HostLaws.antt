-- The used rows of a store are one number of 64 bits. Assumes nothing.
use Prim.Native.Nat.{ℕ, ◌+◌, ◌*◌, ◌<◌, ◌^◌}
use mathlib.Core.Path.{◌≡◌, sym, ◌∙◌}
use mathlib.Core.List.{List}
use Rattle.std.specs.Prelude.{Option, Some}
use native.Mathlib.Omega.{arith}
use Rattle.store.specs.View.{view}
use Rattle.hosting.specs.Hosting.{used_in}
use Rattle.hosting.specs.declared.Used.{Used}
use Rattle.hosting.proofs.HostingLaws.{used_small}

-- each table has at most 4,096
pub rows_fit : (s : List ℕ) {answer : Option Used} {u : Used} → answer ≡ used_in (view s) → answer ≡ Some u
    → u.filters + 65536 * u.eqs + 4294967296 * u.notes < 2 ^ 64
rows_fit s e is = omega (arith, used_small s (sym e ∙ is))
