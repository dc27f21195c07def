-- What a store means, or that it is not as laid out: document 01, Refusals by operation, "3 store not as laid out: counts, padding,
-- lengths, rule text, row rule numbers, note sessions over 255, filter validity, equal rows".
use Rattle.std.specs.Prelude.{ℕ, Bool, true, false, ◌&&◌, ◌||◌, not, cond, List, leb, ltb, length, Option, None, Some}
use Rattle.text.specs.Text.{same}
use Rattle.topic.specs.Topic.{valid_filter}
use Rattle.json_text.specs.Lines.{lines}
use Rattle.table.specs.Table.{sound}
use Rattle.rule.specs.Limits.{text_limit, id_limit}
use Rattle.rule.specs.RuleText.{text_fault}
use Rattle.rule.specs.declared.Fault.{Fault}
use Rattle.store.specs.declared.Counts.{Counts}
use Rattle.store.specs.Store.{session_limit, over, counts_fit, FilterRow, EqRow, NoteRow, View, ownerless, same_filter, same_eq, same_note}
use Rattle.store.specs.Layout.{layout, read_layout}

unfoldable pub faultless : Option Fault → Bool
faultless None = true
faultless (Some f) = false

-- counts and rule text as Open takes them: "counts, .. rule text" (all of Open's tests; out of range is 4 there and 3 here)
unfoldable pub openable : Counts → List ℕ → Bool
openable c text = counts_fit c && (leb (length text) c.bytes && faultless (text_fault text))

-- the number of rules of a text: each line is one
unfoldable pub rules : List ℕ → ℕ
rules text = length (lines text)

-- "lengths, .. row rule numbers"
unfoldable pub bad_eq : List ℕ → EqRow → Bool
bad_eq text r = leb (rules text) r.rule || over text_limit r.text

-- ".. filter validity"
unfoldable pub bad_filter : List ℕ → FilterRow → Bool
bad_filter text r = bad_eq text (ownerless r) || (over id_limit r.owner || not (valid_filter r.text))

-- "lengths, .. note sessions over 255"
unfoldable pub bad_note : NoteRow → Bool
bad_note r = ltb session_limit r.session || over text_limit r.text

unfoldable pub well_formed : View → Bool
well_formed v =
    openable v.counts v.text
    && (sound same_filter (bad_filter v.text) v.counts.filters v.filters
    && (sound same_eq (bad_eq v.text) v.counts.eqs v.eqs && sound same_note bad_note v.counts.notes v.notes))

-- what a store means, or nothing for "a store not as laid out". What is read is cut to the room there is, so over-long lengths, too many
-- used rows, padding and unused rows show where it is laid out again: these bytes have to come back. That every well-formed view is
-- meant by its layout is a law (`view_of_layout`, proofs/ViewLaws.antt)
unfoldable pub view : List ℕ → Option View
view s = cond (well_formed (read_layout s) && same (layout (read_layout s)) s) (Some (read_layout s)) None
