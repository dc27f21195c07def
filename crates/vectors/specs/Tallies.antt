-- How many lines of each kind there were, and how many of them agree.
use Rattle.std.specs.Prelude.{ℕ, ◌+◌, ◌%◌, ◌^◌, Bool, cond, replicate, slice_index_or, Option, Some, None}
use Rattle.std.specs.List.{slice_set}
use Rattle.vectors.specs.declared.judging.Kind.{Kind}
use Rattle.vectors.specs.declared.judging.Kind.TheVariants.{Valid, Tree, Plain, Document, Within, RuleLine, Identity, OnStore, Client}
use Rattle.vectors.specs.declared.judging.Judged.{Judged}
use Rattle.vectors.specs.declared.tallies.Tally.{Tally}
use Rattle.vectors.specs.declared.tallies.Tallies.{Tallies}

-- the number of kinds, and where each is counted
abbrev pub kinds : ℕ
kinds = 9

abbrev pub place : Kind → ℕ
place Valid = 0
place Tree = 1
place Plain = 2
place Document = 3
place Within = 4
place RuleLine = 5
place Identity = 6
place OnStore = 7
place Client = 8

-- before the first line: none of any kind
abbrev pub no_lines : Tally
no_lines = record { agreed = 0; asked = 0 }

abbrev pub no_tallies : Tallies
no_tallies = record { by_kind = replicate kinds no_lines }

-- one more line, in 64 bits
unfoldable pub more : Tally → Bool → Tally
more t agrees = record { agreed = (t.agreed + cond agrees 1 0) % 2 ^ 64; asked = (t.asked + 1) % 2 ^ 64 }

-- the line counts for its kind; a malformed one is of no kind
unfoldable pub counted : Tallies → Option Judged → Tallies
counted t (Some judged) =
    record { by_kind = slice_set t.by_kind (place judged.kind) (more (slice_index_or t.by_kind (place judged.kind) no_lines) judged.agrees) }
counted t None = t
