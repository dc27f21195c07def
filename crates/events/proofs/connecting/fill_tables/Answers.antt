-- `events::connecting::fill_tables` meets its contract: each table's rows are added, or it is full and all are put back; the header's numbers come
-- last. Assumes nothing.
use Prim.Native.Nat.{ℕ}
use mathlib.Core.Bool.{false}
use mathlib.Core.Path.{◌≡◌, refl, ◌∙◌}
use mathlib.Core.List.{List}
use Rattle.std.specs.Prelude.{Option, None, Some}
use native.Mathlib.Omega.{arith}
use Rattle.rule.specs.Refusals.{number, first}
use Rattle.store.specs.declared.Shape.{Shape}
use Rattle.store.specs.Store.{store_length, View}
use Rattle.store.specs.Layout.{filters_at, eqs_at, notes_at}
use Rattle.store.specs.Check.{shape_of}
use Rattle.store.specs.View.{view}
use Rattle.store.proofs.PartLaws.{seen_as}
use Rattle.events.specs.Event.{says, connected, argument_causes}
use Rattle.events.specs.Templates.{over_filled}
use Rattle.events.specs.Pushes.{replaced, table_at, table_end, table_used}
use Rattle.events.proofs.StoreLaws.{Ready, FiltersAdded, EqsAdded, NotesAdded, asks_filters, asks_eqs, asks_notes, filters_full, filters_added, eqs_full, eqs_added, notes_full, notes_added, all_added}
use Rattle.events.proofs.connecting.fill_tables.Goals.{In-Some, In-Some-push_all, In-Some-push_all-2}
use Rattle.events.proofs.connecting.fill_tables.Goals as goal

-- what is known before the first table is filled
ready : {session : ℕ} {id s : List ℕ} {name : Option (List ℕ)} {shape : Shape} → shape_of (view s) ≡ Some shape
    → first (argument_causes (connected session id name)) ≡ None → ((v : View) → view s ≡ Some v → over_filled v.text id name ≡ false)
    → Ready session id name s shape (filters_at shape.counts) (eqs_at shape.counts) (notes_at shape.counts) (store_length shape.counts)
ready {s = s} {shape} laid fine under =
    let g = seen_as (view s) shape laid in
    record {
      v = g.seen;
      is = g.is;
      fine = fine;
      under = under g.seen g.is;
      shaped = g.shaped;
      filters_place = refl;
      eqs_place = refl;
      notes_place = refl;
      ends = refl;
    }

-- the filters are added; the eqs too; the notes too
filters_in : (c : In-Some) → FiltersAdded (ready c.requires.store_value c.requires.names_value c.requires.names_value_2) c.in-Some.filters c.push_all.new.store
unfolding replaced table_at table_end table_used
filters_in c = filters_added _ (c.push_all.ensures.value, c.push_all.ensures.store_after) c.in-Some.is

eqs_in : (c : In-Some-push_all) → EqsAdded (ready c.requires.store_value c.requires.names_value c.requires.names_value_2) c.in-Some-push_all.eqs c.push_all-2.new.store
unfolding replaced table_at table_end table_used
eqs_in c =
    let A = filters_added _ (c.push_all.ensures.value, c.push_all.ensures.store_after) c.in-Some.is in
    eqs_added _ A (c.push_all-2.ensures.value, c.push_all-2.ensures.store_after) c.in-Some-push_all.is

notes_in : (c : In-Some-push_all-2) → NotesAdded (ready c.requires.store_value c.requires.names_value c.requires.names_value_2) c.in-Some-push_all-2.notes c.push_all-3.new.store
unfolding replaced table_at table_end table_used
notes_in c =
    let A = filters_added _ (c.push_all.ensures.value, c.push_all.ensures.store_after) c.in-Some.is in
    let B = eqs_added _ A (c.push_all-2.ensures.value, c.push_all-2.ensures.store_after) c.in-Some-push_all.is in
    notes_added _ A B (c.push_all-3.ensures.value, c.push_all-3.ensures.store_after) c.in-Some-push_all-2.is

pub push_all-requires : goal.push_all-requires
unfolding replaced table_at table_end table_used
push_all-requires c =
    let whole = asks_filters (ready c.requires.store_value c.requires.names_value c.requires.names_value_2) in record { in_order = whole.0; few_lines = whole.1; none_over = whole.2 }

pub returns-in_default : goal.returns-in_default
unfolding says number replaced table_at table_end table_used
returns-in_default c =
    let g = ready c.requires.store_value c.requires.names_value c.requires.names_value_2 in
    let whole = filters_full g (c.push_all.ensures.value, c.push_all.ensures.store_after) c.in_default.is c.put_back.ensures in
    record { result_value = whole.0; store_after = whole.1 }

pub push_all-requires-2 : goal.push_all-requires-2
unfolding replaced table_at table_end table_used
push_all-requires-2 c =
    let whole = asks_eqs _ (filters_in (goal.at.push_all-requires-2 c).In-Some) in record { in_order = whole.0; few_lines = whole.1; none_over = whole.2 }

pub returns-in_default-push_all : goal.returns-in_default-push_all
unfolding says number replaced table_at table_end table_used
returns-in_default-push_all c =
    let f = filters_in (goal.at.returns-in_default-push_all c).In-Some in
    let whole = eqs_full _ f (c.push_all-2.ensures.value, c.push_all-2.ensures.store_after) c.in_default-push_all.is c.put_back-in_default-push_all.ensures in
    record { result_value = whole.0; store_after = whole.1 }

pub push_all-requires-3 : goal.push_all-requires-3
unfolding replaced table_at table_end table_used
push_all-requires-3 c =
    let at = goal.at.push_all-requires-3 c in
    let whole = asks_notes _ (filters_in at.In-Some) (eqs_in at.In-Some-push_all) in record { in_order = whole.0; few_lines = whole.1; none_over = whole.2 }

pub returns-in_default-push_all-2 : goal.returns-in_default-push_all-2
unfolding says number replaced table_at table_end table_used
returns-in_default-push_all-2 c =
    let at = goal.at.returns-in_default-push_all-2 c in
    let whole = notes_full _ (filters_in at.In-Some) (eqs_in at.In-Some-push_all) (c.push_all-3.ensures.value, c.push_all-3.ensures.store_after)
    c.in_default-push_all-2.is c.put_back-in_default-push_all-2.ensures in
    record { result_value = whole.0; store_after = whole.1 }

pub overflow_cast-filters : goal.overflow_cast-filters
overflow_cast-filters c = omega (arith, (filters_in (goal.at.overflow_cast-filters c).In-Some).few)

pub overflow_cast-eqs : goal.overflow_cast-eqs
overflow_cast-eqs c = omega (arith, (eqs_in (goal.at.overflow_cast-eqs c).In-Some-push_all).few)

pub overflow_cast-notes : goal.overflow_cast-notes
overflow_cast-notes c = omega (arith, (notes_in (goal.at.overflow_cast-notes c).In-Some-push_all-2).few)

pub shape_of-store : goal.shape_of-store
shape_of-store c =
    c.put_number-3.auto.bytes ∙ (c.put_number-2.auto.bytes ∙ (c.put_number.auto.bytes ∙ (c.push_all-3.auto.store ∙ (c.push_all-2.auto.store ∙ c.push_all.auto.store))))

pub returns : goal.returns
unfolding says
returns c =
    let at = goal.at.returns c in
    let whole = all_added _ (filters_in at.In-Some) (eqs_in at.In-Some-push_all) (notes_in at.In-Some-push_all-2) c.put_number.ensures c.put_number-2.ensures c.put_number-3.ensures in
    record { result_value = whole.0; store_after = whole.1 }
