-- Rows pushed one after the other, as bytes: what the functions of connecting.rt answer.
use Rattle.std.specs.Prelude.{ℕ, suc, ◌-◌, cond, List, [], ◌∷◌, ◌++◌, map, ltb, length, take, drop, Option, None, Some}
use Rattle.topic.specs.Topic.{valid_filter}
use Rattle.table.specs.Bytes.{push_answer, pushed, restored}
use Rattle.table.specs.declared.Pushed.{Pushed}
use Rattle.table.specs.declared.Pushed.TheVariants.{Present, Added, Full}
use Rattle.rule.specs.Limits.{text_limit, id_limit}
use Rattle.rule.specs.RuleText.{Filled, filled}
use Rattle.store.specs.declared.Counts.{Counts}
use Rattle.store.specs.declared.Shape.{Shape}
use Rattle.store.specs.Store.{store_length, filter_size, eq_size, note_size}
use Rattle.store.specs.Layout.{filter_codec, eq_codec, filters_at, eqs_at, notes_at}
use Rattle.events.specs.declared.FilledTopic.{FilledTopic}
use Rattle.events.specs.declared.FilledTopic.TheVariants.{Static, TooLong, Filter, Eq}
use Rattle.events.specs.declared.Table.{Table}
use Rattle.events.specs.declared.Table.TheVariants.{Filters, Eqs, Notes}

-- where a table's stretch of the store begins and ends, and how many rows are used of it: "then .. F, E, N rows"
unfoldable pub table_at : Table → Counts → ℕ
table_at Filters c = filters_at c
table_at Eqs c = eqs_at c
table_at Notes c = notes_at c

unfoldable pub table_end : Table → Counts → ℕ
table_end Filters c = eqs_at c
table_end Eqs c = notes_at c
table_end Notes c = store_length c

unfoldable pub table_used : Table → Shape → ℕ
table_used Filters shape = shape.filters
table_used Eqs shape = shape.eqs
table_used Notes shape = shape.notes

-- a row's bytes, or nothing to push
unfoldable pub filter_bytes : ℕ → List ℕ → List ℕ → Option (List ℕ)
filter_bytes rule text id =
    cond (valid_filter text) (Some (filter_codec.put (record { rule = rule; text = take text_limit text; owner = take id_limit id }))) None

unfoldable pub numbered_bytes : ℕ → List ℕ → Option (List ℕ)
numbered_bytes n text = Some (eq_codec.put (record { rule = n; text = take text_limit text }))

-- pushing a row, or nothing, which counts as present
unfoldable pub pushes_answer : Option (List ℕ) → ℕ → List ℕ → Pushed
pushes_answer None used part = Present
pushes_answer (Some row) used part = push_answer row used part

unfoldable pub pushes : Option (List ℕ) → ℕ → List ℕ → List ℕ
pushes None used part = part
pushes (Some row) used part = pushed row used part

-- the row of a filled filter text or of a filled eq text in each table
unfoldable pub filter_in : Table → ℕ → ℕ → List ℕ → List ℕ → Option (List ℕ)
filter_in Filters rule session id text = filter_bytes rule text id
filter_in Eqs rule session id text = None
filter_in Notes rule session id text = numbered_bytes session text

unfoldable pub eq_in : Table → ℕ → ℕ → List ℕ → List ℕ → Option (List ℕ)
eq_in Filters rule session id text = None
eq_in Eqs rule session id text = numbered_bytes rule text
eq_in Notes rule session id text = None

unfoldable pub topic_bytes : Table → ℕ → ℕ → List ℕ → FilledTopic → List ℕ → Option (List ℕ)
topic_bytes table rule session id Static text = None
topic_bytes table rule session id TooLong text = None
topic_bytes table rule session id (Filter n) text = filter_in table rule session id (take n text)
topic_bytes table rule session id (Eq n) text = eq_in table rule session id (take n text)

-- the rows of a table for the filled templates of a text
unfoldable pub filled_bytes : Table → ℕ → List ℕ → Filled → Option (List ℕ)
filled_bytes table session id f = cond f.eq (eq_in table f.rule session id f.text) (filter_in table f.rule session id f.text)

unfoldable pub new_bytes : Table → ℕ → List ℕ → List ℕ → Option (List ℕ) → List (Option (List ℕ))
new_bytes table session text id name = map (filled_bytes table session id) (filled text id name)

-- all of them, up to the first that finds no room
unfoldable pub all_answer : List (Option (List ℕ)) → ℕ → List ℕ → Option ℕ
all_answer [] used part = Some used
all_answer (r ∷ rs) used part =
    elim (pushes_answer r used part) [
      | Present ↦ all_answer rs used (pushes r used part)
      | Added ↦ all_answer rs (suc used) (pushes r used part)
      | Full ↦ None
    ]

unfoldable pub all_pushed : List (Option (List ℕ)) → ℕ → List ℕ → List ℕ
all_pushed [] used part = part
all_pushed (r ∷ rs) used part =
    elim (pushes_answer r used part) [
      | Present ↦ all_pushed rs used (pushes r used part)
      | Added ↦ all_pushed rs (suc used) (pushes r used part)
      | Full ↦ part
    ]

-- the three tables put back to the rows that a shape has used, from so many; a store that is shorter than its counts say is left alone
unfoldable pub replaced : ℕ → ℕ → (List ℕ → List ℕ) → List ℕ → List ℕ
replaced from to f s = take from s ++ (f (take (to - from) (drop from s)) ++ drop to s)

unfoldable pub put_back : Shape → ℕ → ℕ → ℕ → List ℕ → List ℕ
put_back shape filters eqs notes s =
    cond (ltb (length s) (store_length shape.counts)) s
    (replaced (notes_at shape.counts) (store_length shape.counts) (restored note_size shape.notes notes)
    (replaced (eqs_at shape.counts) (notes_at shape.counts) (restored eq_size shape.eqs eqs)
    (replaced (filters_at shape.counts) (eqs_at shape.counts) (restored filter_size shape.filters filters) s)))
