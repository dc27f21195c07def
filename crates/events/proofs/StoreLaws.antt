-- The store while an event's rows are added to its three tables, one after the other, and what the event then says. Assumes nothing.
use Prim.Native.Nat.{ℕ, ◌+◌, ◌*◌, ◌-◌, ◌≤◌, ◌<◌}
use mathlib.Core.Path.{◌≡◌, refl, sym, ap, ◌∙◌}
use mathlib.Core.Bool.{Bool, true, false, cond}
use mathlib.Core.List.{List, [], ◌∷◌, ◌++◌, append_assoc, append-nil}
use Rattle.std.specs.Prelude.{Option, None, Some}
use native.Mathlib.Omega.{arith}
use borrow.Author.Tests.{le-ltb, lt-ltb, ltb-false}
use borrow.Rule.Slice.PartMut.{mid_of}
use lib.Dec.{ltb}
use lib.ListN.{length, take, drop, length-append}
use lib.Seq.{take_at, drop_at, take-append-le, take-append-add}
use Rattle.text.specs.Text.{pasted}
use Rattle.text.proofs.Laws.{or_split, pasted_fits}
use Rattle.json_text.specs.Lines.{lines}
use Rattle.table.specs.Table.{change}
use Rattle.table.specs.Bytes.{u16, restored}
use Rattle.rule.specs.Limits.{id_limit, lines_limit}
use Rattle.rule.specs.Refusals.{first}
use Rattle.rule.specs.RuleText.{filled, fault_in, text_fault}
use Rattle.rule.specs.declared.Fault.{Fault}
use Rattle.store.specs.declared.Counts.{Counts}
use Rattle.store.specs.declared.Shape.{Shape}
use Rattle.store.specs.Store.{bytes_limit, session_limit, store_length, filter_size, eq_size, note_size, over, View, same_filter, same_eq}
use Rattle.store.specs.Layout.{pad, filter_codec, numbered_codec, eq_codec, note_codec, area, header, layout, filters_at, eqs_at, notes_at}
use Rattle.store.specs.View.{faultless, view}
use Rattle.store.specs.Check.{shape_of}
use Rattle.store.proofs.LayoutLaws.{filter_rows_lem, eq_rows_lem, note_rows_lem, pad-length, pad-take, filter_reads, eq_reads, note_reads, area-length, Fits, filter_area, eq_area, note_area, long_filter, long_eq, long_note, openable_parts, well_formed_parts, well_formed-fits}
use Rattle.store.proofs.OpenLaws.{InRange, fit_range}
use Rattle.store.proofs.PartLaws.{shape_of_lem, Seen, shaped-seen, malformed_told, Bounds, bounds_of}
use Rattle.store.proofs.ViewLaws.{view-well_formed, view-layout}
use Rattle.events.specs.Event.{Event, connected, over_name, argument_causes, filled_filters, filled_eqs, filter_rows, eq_rows, note_rows, filter_change, new_eqs, note_change, effect, store_causes, cause, stored, after, given as is-cause}
use Rattle.events.specs.Templates.{over_filled}
use Rattle.events.specs.Pushes.{new_bytes, all_answer, all_pushed, replaced, put_back}
use Rattle.events.specs.declared.Table.{Table}
use Rattle.events.specs.declared.Table.TheVariants.{Filters, Eqs, Notes}
use Rattle.events.proofs.PushLaws.{places}
use Rattle.events.proofs.ConnectLaws.{rules, drop_cut}
use Rattle.events.proofs.FillLaws.{new_filters, new_eqs_lem, new_notes, filters_short, eqs_short, notes_short, Stopped, used_told, stopped_told, stopped_back, stopped-length, added_good, added_back, none_back}

-- ---- a stretch of a list

module _ (front part back : List ℕ) (from to : ℕ) (e : length front ≡ from) (k : from + length part ≡ to) where
  cut_mid : mid_of from (to - from) (front ++ (part ++ back)) ≡ part
  cut_mid = rw (drop_at front (part ++ back) from e) (take_at part back (to - from) (omega arith))

  cut_put : (f : List ℕ → List ℕ) → replaced from to f (front ++ (part ++ back)) ≡ front ++ (f part ++ back)
  unfolding replaced
  cut_put f =
      let begin = take_at front (part ++ back) from e in
      let rest = ap (drop to) (sym (append_assoc front part back)) ∙ drop_at (front ++ part) back to (omega (arith, length-append front part)) in
      λ i. begin i ++ (f (cut_mid i) ++ rest i)

-- ---- the store, with other tables than a view's

abbrev pub state : View → List ℕ → List ℕ → List ℕ → List ℕ
state v filters eqs notes =
    header v.counts (length v.text) (length v.filters) (length v.eqs) (length v.notes)
    ++ (pad v.counts.bytes v.text ++ (filters ++ (eqs ++ notes)))

pub record Sized (v : View) (fs es ns : List ℕ) : Type 0 where
  pub filters : length fs ≡ v.counts.filters * filter_size
  pub eqs : length es ≡ v.counts.eqs * eq_size
  pub notes : length ns ≡ v.counts.notes * note_size

regroup₃ : (a b c d : List ℕ) → a ++ (b ++ (c ++ d)) ≡ (a ++ (b ++ c)) ++ d
regroup₃ a b c d = sym (append_assoc a (b ++ c) d ∙ ap (λ l. a ++ l) (append_assoc b c d))

regroup₄ : (a b c d e : List ℕ) → a ++ (b ++ (c ++ (d ++ e))) ≡ (a ++ (b ++ (c ++ d))) ++ (e ++ [])
regroup₄ a b c d e = ap (λ l. a ++ (b ++ l)) (sym (append_assoc c d e)) ∙ (regroup₃ a b (c ++ d) e ∙ ap (λ l. (a ++ (b ++ (c ++ d))) ++ l) (sym (append-nil e)))

module _ (v : View) (F : Fits v) where
  abbrev head : List ℕ
  head = header v.counts (length v.text) (length v.filters) (length v.eqs) (length v.notes)

  abbrev text_pad : List ℕ
  text_pad = pad v.counts.bytes v.text

  head_length : length head ≡ 16
  unfolding header u16
  head_length = refl

  to_filters : length (head ++ text_pad) ≡ filters_at v.counts
  unfolding filters_at
  to_filters = omega (arith, length-append head text_pad, head_length, pad-length v.counts.bytes v.text F.text)

  -- its rule text
  pub state-text : (filters eqs notes : List ℕ) → rules (16 + length v.text) (state v filters eqs notes) ≡ v.text
  unfolding header u16
  state-text filters eqs notes =
      ap (drop 16) (take-append-add head (text_pad ++ (filters ++ (eqs ++ notes))) (length v.text))
      ∙ (take-append-le (length v.text) text_pad (filters ++ (eqs ++ notes)) (omega (arith, pad-length v.counts.bytes v.text F.text, F.text))
      ∙ pad-take v.counts.bytes v.text)

  module _ (filters eqs notes : List ℕ) (S : Sized v filters eqs notes) where
    past_filters : filters_at v.counts + length filters ≡ eqs_at v.counts
    unfolding eqs_at
    past_filters = ap (λ (n : ℕ). filters_at v.counts + n) S.filters

    past_eqs : eqs_at v.counts + length eqs ≡ notes_at v.counts
    unfolding notes_at
    past_eqs = ap (λ (n : ℕ). eqs_at v.counts + n) S.eqs

    past_notes : notes_at v.counts + length notes ≡ store_length v.counts
    unfolding filters_at eqs_at notes_at store_length
    past_notes = omega (arith, S.notes)

    to_eqs : length (head ++ (text_pad ++ filters)) ≡ eqs_at v.counts
    to_eqs = omega (arith, length-append head (text_pad ++ filters), length-append text_pad filters, length-append head text_pad, to_filters, past_filters)

    to_notes : length (head ++ (text_pad ++ (filters ++ eqs))) ≡ notes_at v.counts
    to_notes = omega (arith, length-append head (text_pad ++ (filters ++ eqs)), length-append text_pad (filters ++ eqs), length-append filters eqs, length-append head text_pad, to_filters, past_filters, past_eqs)

    pub state-length : length (state v filters eqs notes) ≡ store_length v.counts
    state-length =
        ap length (regroup₄ head text_pad filters eqs notes)
        ∙ omega (arith, length-append (head ++ (text_pad ++ (filters ++ eqs))) (notes ++ []), length-append notes [], to_notes, past_notes)

    -- its stretches
    pub mid_filters : mid_of (filters_at v.counts) (eqs_at v.counts - filters_at v.counts) (state v filters eqs notes) ≡ filters
    mid_filters =
        ap (mid_of (filters_at v.counts) (eqs_at v.counts - filters_at v.counts)) (sym (append_assoc head text_pad (filters ++ (eqs ++ notes))))
        ∙ cut_mid (head ++ text_pad) filters (eqs ++ notes) _ _ to_filters past_filters

    pub mid_eqs : mid_of (eqs_at v.counts) (notes_at v.counts - eqs_at v.counts) (state v filters eqs notes) ≡ eqs
    mid_eqs =
        ap (mid_of (eqs_at v.counts) (notes_at v.counts - eqs_at v.counts)) (regroup₃ head text_pad filters (eqs ++ notes))
        ∙ cut_mid (head ++ (text_pad ++ filters)) eqs notes _ _ to_eqs past_eqs

    pub mid_notes : mid_of (notes_at v.counts) (store_length v.counts - notes_at v.counts) (state v filters eqs notes) ≡ notes
    mid_notes =
        ap (mid_of (notes_at v.counts) (store_length v.counts - notes_at v.counts)) (regroup₄ head text_pad filters eqs notes)
        ∙ cut_mid (head ++ (text_pad ++ (filters ++ eqs))) notes [] _ _ to_notes past_notes

    pub put_filters : (f : List ℕ → List ℕ) → replaced (filters_at v.counts) (eqs_at v.counts) f (state v filters eqs notes) ≡ state v (f filters) eqs notes
    put_filters f =
        ap (replaced (filters_at v.counts) (eqs_at v.counts) f) (sym (append_assoc head text_pad (filters ++ (eqs ++ notes))))
        ∙ (cut_put (head ++ text_pad) filters (eqs ++ notes) _ _ to_filters past_filters f ∙ append_assoc head text_pad (f filters ++ (eqs ++ notes)))

    pub put_eqs : (f : List ℕ → List ℕ) → replaced (eqs_at v.counts) (notes_at v.counts) f (state v filters eqs notes) ≡ state v filters (f eqs) notes
    put_eqs f =
        ap (replaced (eqs_at v.counts) (notes_at v.counts) f) (regroup₃ head text_pad filters (eqs ++ notes))
        ∙ (cut_put (head ++ (text_pad ++ filters)) eqs notes _ _ to_eqs past_eqs f ∙ sym (regroup₃ head text_pad filters (f eqs ++ notes)))

    pub put_notes : (f : List ℕ → List ℕ) → replaced (notes_at v.counts) (store_length v.counts) f (state v filters eqs notes) ≡ state v filters eqs (f notes)
    put_notes f =
        ap (replaced (notes_at v.counts) (store_length v.counts) f) (regroup₄ head text_pad filters eqs notes)
        ∙ (cut_put (head ++ (text_pad ++ (filters ++ eqs))) notes [] _ _ to_notes past_notes f ∙ sym (regroup₄ head text_pad filters eqs (f notes)))

  -- the tables put back
  pub state_back : {filters eqs notes filters₁ eqs₁ notes₁ : List ℕ} (a b d : ℕ) → Sized v filters eqs notes → Sized v filters₁ eqs notes → Sized v filters₁ eqs₁ notes
      → restored filter_size (length v.filters) a filters ≡ filters₁ → restored eq_size (length v.eqs) b eqs ≡ eqs₁ → restored note_size (length v.notes) d notes ≡ notes₁
      → put_back (shape_of_lem v) a b d (state v filters eqs notes) ≡ state v filters₁ eqs₁ notes₁
  unfolding put_back
  state_back {filters} {eqs} {notes} {filters₁} {eqs₁} a b d S S₁ S₂ e f g =
      let c = v.counts in
      let full = le-ltb (length (state v filters eqs notes)) (store_length c) (omega (arith, state-length filters eqs notes S)) in
      let p₁ = put_filters filters eqs notes S (restored filter_size (length v.filters) a) ∙ ap (λ l. state v l eqs notes) e in
      let p₂ = put_eqs filters₁ eqs notes S₁ (restored eq_size (length v.eqs) b) ∙ ap (λ l. state v filters₁ l notes) f in
      let p₃ = put_notes filters₁ eqs₁ notes S₂ (restored note_size (length v.notes) d) ∙ ap (λ l. state v filters₁ eqs₁ l) g in
      rw full
      (ap (λ s. replaced (notes_at c) (store_length c) (restored note_size (length v.notes) d) (replaced (eqs_at c) (notes_at c) (restored eq_size (length v.eqs) b) s)) p₁
      ∙ (ap (replaced (notes_at c) (store_length c) (restored note_size (length v.notes) d)) p₂ ∙ p₃))

-- the header's numbers are written
module _ (c : Counts) (text f e n : ℕ) (rest : List ℕ) where
  put_used : (f₁ e₁ n₁ : ℕ) → pasted 14 (u16 n₁) (pasted 12 (u16 e₁) (pasted 10 (u16 f₁) (header c text f e n ++ rest))) ≡ header c text f₁ e₁ n₁ ++ rest
  unfolding header u16
  put_used f₁ e₁ n₁ =
      ap (λ s. pasted 14 (u16 n₁) (pasted 12 (u16 e₁) s)) (pasted_fits 10 (u16 f₁) (header c text f e n ++ rest) (omega arith))
      ∙ (ap (pasted 14 (u16 n₁)) (pasted_fits 12 (u16 e₁) (header c text f₁ e n ++ rest) (omega arith)) ∙ pasted_fits 14 (u16 n₁) (header c text f₁ e₁ n ++ rest) (omega arith))

-- ---- what the event says

first-none : (xs ys : List (Bool × ℕ)) → first xs ≡ None → first (xs ++ ys) ≡ first ys
unfolding first
first-none [] ys e = refl
first-none (x ∷ xs) ys e = at x.0 e (first-none xs ys)
  where
    at : (b : Bool) → cond b (Some x.1) (first xs) ≡ None → (first xs ≡ None → first (xs ++ ys) ≡ first ys) → cond b (Some x.1) (first (xs ++ ys)) ≡ first ys
    at true e onward = let z : ◌≡◌ {A = ℕ} 0 1 = cc in absurd (omega arith)
    at false e onward = onward e

first-false : (b : Bool) (n : ℕ) (rest : List (Bool × ℕ)) → first ((b, n) ∷ rest) ≡ None → b ≡ false
unfolding first
first-false true n rest e = let z : ◌≡◌ {A = ℕ} 0 1 = cc in absurd (omega arith)
first-false false n rest e = refl

first_some : {n : ℕ} (xs ys : List (Bool × ℕ)) → first xs ≡ Some n → first (xs ++ ys) ≡ Some n
unfolding first
first_some [] ys e = let z : ◌≡◌ {A = ℕ} 0 1 = cc in absurd (omega arith)
first_some {n} (x ∷ xs) ys e = at x.0 e (first_some xs ys)
  where
    at : (b : Bool) → cond b (Some x.1) (first xs) ≡ Some n → (first xs ≡ Some n → first (xs ++ ys) ≡ Some n) → cond b (Some x.1) (first (xs ++ ys)) ≡ Some n
    at true e onward = e
    at false e onward = onward e

-- an event with a cause is refused, and the store is as it was
pub caused : {n : ℕ} (e : Event) (s : List ℕ) → cause e (view s) ≡ Some n → (Some n ≡ cause e (view s)) × (s ≡ after e s)
unfolding after stored
caused {n} e s q = (sym q, at (view s) q)
  where
    at : (o : Option View) → cause e o ≡ Some n → s ≡ stored e s o
    at None q = refl
    at (Some v) q = rw q

pub argument_caused : {n : ℕ} (e : Event) (s : List ℕ) → first (argument_causes e) ≡ Some n → (Some n ≡ cause e (view s)) × (s ≡ after e s)
unfolding cause
argument_caused {n} e s q = caused e s (at (view s))
  where
    at : (o : Option View) → cause e o ≡ Some n
    at None = first_some (argument_causes e) ((true, 3) ∷ []) q
    at (Some v) = first_some (argument_causes e) (store_causes e v) q

pub malformed_caused : (e : Event) (s : List ℕ) → first (argument_causes e) ≡ None → shape_of (view s) ≡ None → (Some 3 ≡ cause e (view s)) × (s ≡ after e s)
unfolding cause first
malformed_caused e s q m = caused e s (ap (cause e) (malformed_told s refl m) ∙ first-none (argument_causes e) ((true, 3) ∷ []) q)

-- the causes that are seen of the arguments
module _ (session : ℕ) (id : List ℕ) (name : Option (List ℕ)) where
  pub id_over : id_limit < length id → first (argument_causes (connected session id name)) ≡ Some 1
  unfolding argument_causes first
  id_over h = rw (lt-ltb id_limit (length id) h)

  module _ (h : length id ≤ id_limit) where
    pub name_too_long : over_name name ≡ true → first (argument_causes (connected session id name)) ≡ Some 1
    unfolding argument_causes first
    name_too_long q = rw (le-ltb id_limit (length id) h, q)

    pub session_over : over_name name ≡ false → session_limit < session → first (argument_causes (connected session id name)) ≡ Some 2
    unfolding argument_causes first
    session_over q k = rw (le-ltb id_limit (length id) h, q, lt-ltb session_limit session k)

    pub arguments_fine : over_name name ≡ false → session ≤ session_limit → first (argument_causes (connected session id name)) ≡ None
    unfolding argument_causes first
    arguments_fine q k = rw (le-ltb id_limit (length id) h, q, le-ltb session_limit session k)

faultless_none : (o : Option Fault) → faultless o ≡ true → o ≡ None
unfolding faultless
faultless_none None e = refl
faultless_none (Some f) e = let z : ◌≡◌ {A = ℕ} 0 1 = cc in absurd (omega arith)

few_lines : (text : List ℕ) → text_fault text ≡ None → length (lines text) ≤ lines_limit
unfolding text_fault
few_lines text e = at (ltb lines_limit (length (lines text))) _ refl e
  where
    at : (b : Bool) (f : Fault) → ltb lines_limit (length (lines text)) ≡ b → cond b (Some f) (fault_in 1 (lines text)) ≡ None → length (lines text) ≤ lines_limit
    at true f q e = let z : ◌≡◌ {A = ℕ} 0 1 = cc in absurd (omega arith)
    at false f q e = ltb-false lines_limit (length (lines text)) q

filters_begin : (c : Counts) → filters_at c ≡ 16 + c.bytes
unfolding filters_at
filters_begin c = refl

-- its rule text, which ends within it
module _ (s : List ℕ) (shape : Shape) (g : Seen (view s) shape) where
  G_fits : Fits g.seen
  G_fits = well_formed-fits g.seen (view-well_formed s g.seen g.is)

  G_bounds : Bounds s shape
  G_bounds = bounds_of (shaped-seen s g)

  pub text_fits : shape.text ≤ bytes_limit
  text_fits = omega (arith, G_bounds.text, G_bounds.range.bytes_most)

  pub text_within : 16 + shape.text ≤ length s
  unfolding store_length
  text_within = omega (arith, G_bounds.size, G_bounds.text)

  -- as it is lent on
  pub text_lent : mid_of 16 (16 + shape.text - 16) s ≡ g.seen.text
  unfolding layout
  text_lent =
      let v = g.seen in
      drop_cut 16 (16 + shape.text) s (omega arith) (omega (arith, text_within))
      ∙ ((λ i. rules (16 + (g.shaped i).text) (sym (view-layout s v g.is) i)) ∙ state-text v G_fits (filter_area v) (eq_area v) (note_area v))

  pub not_over : (id : List ℕ) (name : Option (List ℕ)) → over_filled (mid_of 16 (16 + shape.text - 16) s) id name ≡ false
      → (v : View) → view s ≡ Some v → over_filled v.text id name ≡ false
  not_over id name h v is =
      let same : Some v ≡ Some g.seen = sym is ∙ g.is in
      let equal : v ≡ g.seen = cc in
      ap (λ (u : View). over_filled u.text id name) equal ∙ (sym (ap (λ t. over_filled t id name) text_lent) ∙ h)

  pub over_caused : (session : ℕ) (id : List ℕ) (name : Option (List ℕ)) → first (argument_causes (connected session id name)) ≡ None
      → over_filled (mid_of 16 (16 + shape.text - 16) s) id name ≡ true → (Some 7 ≡ cause (connected session id name) (view s)) × (s ≡ after (connected session id name) s)
  unfolding cause store_causes first over_filled
  over_caused session id name fine h =
      let e = connected session id name in
      let long = sym (ap (λ t. over_filled t id name) text_lent) ∙ h in
      caused e s
      (ap (cause e) g.is
      ∙ (first-none (argument_causes e) (store_causes e g.seen) fine ∙ rw long))

-- what is known where the tables are to be filled: what the store means, with its shape and the places of its tables, and that neither the
-- arguments nor a filled text are too long
pub record Ready (session : ℕ) (id : List ℕ) (name : Option (List ℕ)) (s : List ℕ) (shape : Shape) (at₁ at₂ at₃ end : ℕ) : Type 0 where
  pub v : View
  pub is : view s ≡ Some v
  pub fine : first (argument_causes (connected session id name)) ≡ None
  pub under : over_filled v.text id name ≡ false
  pub shaped : shape ≡ shape_of_lem v
  pub filters_place : at₁ ≡ filters_at shape.counts
  pub eqs_place : at₂ ≡ eqs_at shape.counts
  pub notes_place : at₃ ≡ notes_at shape.counts
  pub ends : end ≡ store_length shape.counts

module _ {session at₁ at₂ at₃ end : ℕ} {id s : List ℕ} {name : Option (List ℕ)} {shape : Shape} (G : Ready session id name s shape at₁ at₂ at₃ end) where
  abbrev v : View
  v = G.v

  is : view s ≡ Some v
  is = G.is

  fine : first (argument_causes (connected session id name)) ≡ None
  fine = G.fine

  under : over_filled v.text id name ≡ false
  under = G.under

  abbrev event : Event
  event = connected session id name

  abbrev w : View
  w = effect event v

  F : Fits v
  F = well_formed-fits v (view-well_formed s v is)

  pub id_fits : length id ≤ id_limit
  unfolding argument_causes
  id_fits = ltb-false id_limit (length id) (or_split (over id_limit id) (over_name name) (first-false _ 1 _ fine)).0

  pub lines_fit : length (lines v.text) ≤ lines_limit
  lines_fit = few_lines v.text (faultless_none _ (openable_parts _ _ (well_formed_parts v (view-well_formed s v is)).head).faultless)

  pub rows_fit : InRange v.counts
  rows_fit = fit_range v.counts (openable_parts _ _ (well_formed_parts v (view-well_formed s v is)).head).counts

  store_cause : cause event (Some v)
      ≡ cond (ltb v.counts.filters (length w.filters)) (Some 8)
      (cond (ltb v.counts.eqs (length w.eqs)) (Some 9) (cond (ltb v.counts.notes (length w.notes)) (Some 10) None))
  unfolding cause store_causes first over_filled
  store_cause =
      first-none (argument_causes event) (store_causes event v) fine
      ∙ ap
      (λ b.
      cond b (Some 7)
      (cond (ltb v.counts.filters (length w.filters)) (Some 8)
      (cond (ltb v.counts.eqs (length w.eqs)) (Some 9) (cond (ltb v.counts.notes (length w.notes)) (Some 10) None))))
      under

  refused_as : {t : List ℕ} (n : ℕ) → cause event (Some v) ≡ Some n → t ≡ s → (Some n ≡ cause event (view s)) × (t ≡ after event s)
  unfolding after stored
  refused_as n q e = (sym (ap (cause event) is ∙ q), e ∙ rw (is, q))

  -- ---- the tables

  filters_size : 0 < filter_codec.size
  unfolding filter_codec
  filters_size = omega arith

  eqs_size : 0 < eq_codec.size
  unfolding numbered_codec
  eqs_size = omega arith

  notes_size : 0 < note_codec.size
  unfolding numbered_codec
  notes_size = omega arith

  filters_used_lem : {r : Option ℕ} {n : ℕ} → r ≡ all_answer (new_bytes Filters session v.text id name) (length v.filters) (filter_area v) → r ≡ Some n
      → (length w.filters ≤ v.counts.filters) × (n ≡ length w.filters)
      × (all_pushed (new_bytes Filters session v.text id name) (length v.filters) (filter_area v) ≡ area filter_codec v.counts.filters w.filters)
  unfolding new_bytes over_filled effect change filter_change filter_rows filled_filters
  filters_used_lem told e =
      used_told filter_reads filter_rows_lem v.counts.filters filters_size (filter_rows v.text id name) v.filters (filters_short session id id_fits (filled v.text id name) under)
      F.filter_texts F.filters (new_filters session id id_fits (filled v.text id name) under) told e

  filters-stopped : {r : Option ℕ} → r ≡ all_answer (new_bytes Filters session v.text id name) (length v.filters) (filter_area v) → r ≡ None
      → (v.counts.filters < length w.filters)
      × Stopped filter_codec long_filter v.counts.filters v.filters (all_pushed (new_bytes Filters session v.text id name) (length v.filters) (filter_area v))
  unfolding new_bytes over_filled effect change filter_change filter_rows filled_filters
  filters-stopped told e =
      stopped_told filter_reads filter_rows_lem v.counts.filters filters_size (filter_rows v.text id name) v.filters (filters_short session id id_fits (filled v.text id name) under)
      F.filter_texts F.filters (new_filters session id id_fits (filled v.text id name) under) told e

  eqs_used_lem : {r : Option ℕ} {n : ℕ} → r ≡ all_answer (new_bytes Eqs session v.text id name) (length v.eqs) (eq_area v) → r ≡ Some n
      → (length w.eqs ≤ v.counts.eqs) × (n ≡ length w.eqs)
      × (all_pushed (new_bytes Eqs session v.text id name) (length v.eqs) (eq_area v) ≡ area eq_codec v.counts.eqs w.eqs)
  unfolding new_bytes over_filled effect change new_eqs eq_rows filled_eqs
  eqs_used_lem told e =
      used_told eq_reads eq_rows_lem v.counts.eqs eqs_size (eq_rows v.text id name) v.eqs (eqs_short session id (filled v.text id name) under)
      F.eq_texts F.eqs (new_eqs_lem session id (filled v.text id name) under) told e

  eqs-stopped : {r : Option ℕ} → r ≡ all_answer (new_bytes Eqs session v.text id name) (length v.eqs) (eq_area v) → r ≡ None
      → (v.counts.eqs < length w.eqs)
      × Stopped eq_codec long_eq v.counts.eqs v.eqs (all_pushed (new_bytes Eqs session v.text id name) (length v.eqs) (eq_area v))
  unfolding new_bytes over_filled effect change new_eqs eq_rows filled_eqs
  eqs-stopped told e =
      stopped_told eq_reads eq_rows_lem v.counts.eqs eqs_size (eq_rows v.text id name) v.eqs (eqs_short session id (filled v.text id name) under)
      F.eq_texts F.eqs (new_eqs_lem session id (filled v.text id name) under) told e

  notes_used_lem : {r : Option ℕ} {n : ℕ} → r ≡ all_answer (new_bytes Notes session v.text id name) (length v.notes) (note_area v) → r ≡ Some n
      → (length w.notes ≤ v.counts.notes) × (n ≡ length w.notes)
      × (all_pushed (new_bytes Notes session v.text id name) (length v.notes) (note_area v) ≡ area note_codec v.counts.notes w.notes)
  unfolding new_bytes over_filled effect change note_change note_rows filled_filters
  notes_used_lem told e =
      used_told note_reads note_rows_lem v.counts.notes notes_size (note_rows session v.text id name) v.notes (notes_short session id (filled v.text id name) under)
      F.note_texts F.notes (new_notes session id (filled v.text id name) under) told e

  notes-stopped : {r : Option ℕ} → r ≡ all_answer (new_bytes Notes session v.text id name) (length v.notes) (note_area v) → r ≡ None
      → (v.counts.notes < length w.notes)
      × Stopped note_codec long_note v.counts.notes v.notes (all_pushed (new_bytes Notes session v.text id name) (length v.notes) (note_area v))
  unfolding new_bytes over_filled effect change note_change note_rows filled_filters
  notes-stopped told e =
      stopped_told note_reads note_rows_lem v.counts.notes notes_size (note_rows session v.text id name) v.notes (notes_short session id (filled v.text id name) under)
      F.note_texts F.notes (new_notes session id (filled v.text id name) under) told e

  -- their bytes
  filters_length : length w.filters ≤ v.counts.filters → length (area filter_codec v.counts.filters w.filters) ≡ v.counts.filters * filter_size
  unfolding over_filled effect change filter_change filter_rows filled_filters filter_codec
  filters_length h =
      area-length filter_reads v.counts.filters w.filters
      (added_good filter_reads v.counts.filters v.filters F.filter_texts same_filter (filter_rows v.text id name) (filters_short session id id_fits (filled v.text id name) under) h) h

  eqs_length : length w.eqs ≤ v.counts.eqs → length (area eq_codec v.counts.eqs w.eqs) ≡ v.counts.eqs * eq_size
  unfolding over_filled effect change new_eqs eq_rows filled_eqs numbered_codec
  eqs_length h =
      area-length eq_reads v.counts.eqs w.eqs
      (added_good eq_reads v.counts.eqs v.eqs F.eq_texts same_eq (eq_rows v.text id name) (eqs_short session id (filled v.text id name) under) h) h

  pub sized : Sized v (filter_area v) (eq_area v) (note_area v)
  unfolding filter_codec numbered_codec
  sized =
      record {
        filters = area-length filter_reads _ _ F.filter_texts F.filters;
        eqs = area-length eq_reads _ _ F.eq_texts F.eqs;
        notes = area-length note_reads _ _ F.note_texts F.notes;
      }

  pub start : s ≡ state v (filter_area v) (eq_area v) (note_area v)
  unfolding layout
  start = sym (view-layout s v is)

  filters_back : length w.filters ≤ v.counts.filters → restored filter_size (length v.filters) (length w.filters) (area filter_codec v.counts.filters w.filters) ≡ filter_area v
  unfolding over_filled effect change filter_change filter_rows filled_filters filter_codec
  filters_back h =
      added_back filter_reads v.counts.filters v.filters F.filter_texts same_filter (filter_rows v.text id name) (filters_short session id id_fits (filled v.text id name) under) h

  eqs_back : length w.eqs ≤ v.counts.eqs → restored eq_size (length v.eqs) (length w.eqs) (area eq_codec v.counts.eqs w.eqs) ≡ eq_area v
  unfolding over_filled effect change new_eqs eq_rows filled_eqs numbered_codec
  eqs_back h = added_back eq_reads v.counts.eqs v.eqs F.eq_texts same_eq (eq_rows v.text id name) (eqs_short session id (filled v.text id name) under) h

  -- where one is full
  filters_stop_length : {part : List ℕ} → Stopped filter_codec long_filter v.counts.filters v.filters part → length part ≡ v.counts.filters * filter_size
  unfolding filter_codec
  filters_stop_length S = stopped-length filter_reads v.counts.filters v.filters F.filter_texts S

  filters_stop_back : {part : List ℕ} → Stopped filter_codec long_filter v.counts.filters v.filters part
      → restored filter_size (length v.filters) v.counts.filters part ≡ filter_area v
  unfolding filter_codec
  filters_stop_back S = stopped_back filter_reads v.counts.filters v.filters F.filter_texts S

  eqs_stop_length : {part : List ℕ} → Stopped eq_codec long_eq v.counts.eqs v.eqs part → length part ≡ v.counts.eqs * eq_size
  unfolding numbered_codec
  eqs_stop_length S = stopped-length eq_reads v.counts.eqs v.eqs F.eq_texts S

  eqs_stop_back : {part : List ℕ} → Stopped eq_codec long_eq v.counts.eqs v.eqs part → restored eq_size (length v.eqs) v.counts.eqs part ≡ eq_area v
  unfolding numbered_codec
  eqs_stop_back S = stopped_back eq_reads v.counts.eqs v.eqs F.eq_texts S

  notes_stop_length : {part : List ℕ} → Stopped note_codec long_note v.counts.notes v.notes part → length part ≡ v.counts.notes * note_size
  unfolding numbered_codec
  notes_stop_length S = stopped-length note_reads v.counts.notes v.notes F.note_texts S

  notes_stop_back : {part : List ℕ} → Stopped note_codec long_note v.counts.notes v.notes part
      → restored note_size (length v.notes) v.counts.notes part ≡ note_area v
  unfolding numbered_codec
  notes_stop_back S = stopped_back note_reads v.counts.notes v.notes F.note_texts S

  -- ---- the three calls

  -- the tables as the calls leave them
  abbrev filters_pushed : List ℕ
  filters_pushed = all_pushed (new_bytes Filters session v.text id name) (length v.filters) (filter_area v)

  abbrev eqs_pushed : List ℕ
  eqs_pushed = all_pushed (new_bytes Eqs session v.text id name) (length v.eqs) (eq_area v)

  abbrev notes_pushed : List ℕ
  notes_pushed = all_pushed (new_bytes Notes session v.text id name) (length v.notes) (note_area v)

  abbrev FA : List ℕ
  FA = area filter_codec v.counts.filters w.filters

  abbrev EA : List ℕ
  EA = area eq_codec v.counts.eqs w.eqs

  abbrev NA : List ℕ
  NA = area note_codec v.counts.notes w.notes

  at_filters : at₁ ≡ filters_at v.counts
  at_filters = G.filters_place ∙ ap (λ (h : Shape). filters_at h.counts) G.shaped

  at_eqs : at₂ ≡ eqs_at v.counts
  at_eqs = G.eqs_place ∙ ap (λ (h : Shape). eqs_at h.counts) G.shaped

  at_notes : at₃ ≡ notes_at v.counts
  at_notes = G.notes_place ∙ ap (λ (h : Shape). notes_at h.counts) G.shaped

  at_end : end ≡ store_length v.counts
  at_end = G.ends ∙ ap (λ (h : Shape). store_length h.counts) G.shaped

  text_size : shape.text ≡ length v.text
  text_size = ap (λ (h : Shape). h.text) G.shaped

  text_is : {t : List ℕ} (fs es ns : List ℕ) → t ≡ state v fs es ns → rules (16 + shape.text) t ≡ v.text
  text_is fs es ns q = (λ i. rules (16 + text_size i) (q i)) ∙ state-text v F fs es ns

  bounds : (16 + shape.text ≤ at₁) × (at₁ ≤ at₂) × (at₂ ≤ at₃) × (at₃ ≤ end)
  bounds =
      let p = places v.counts in (
        omega (arith, F.text, text_size, at_filters, filters_begin v.counts),
        omega (arith, p.0, at_filters, at_eqs),
        omega (arith, p.1, at_eqs, at_notes),
        omega (arith, p.2, at_notes, at_end),
      )

  -- what `push_all` asks
  abbrev pub Asks : ℕ → ℕ → List ℕ → Type 0
  Asks from to t =
      ((16 + shape.text ≤ from) × (from ≤ to) × (to ≤ length t))
      × (length (lines (rules (16 + shape.text) t)) ≤ lines_limit)
      × (over_filled (rules (16 + shape.text) t) id name ≡ false)

  module _ {t fs es ns : List ℕ} (q : t ≡ state v fs es ns) (S : Sized v fs es ns) where
    whole_length : length t ≡ end
    whole_length = ap length q ∙ (state-length v F fs es ns S ∙ sym at_end)

    asks : (from to : ℕ) → 16 + shape.text ≤ from → from ≤ to → to ≤ end → Asks from to t
    asks from to after_text in_order within = let l = whole_length in (
      (after_text, in_order, omega arith),
      omega (arith, ap (λ x. length (lines x)) (text_is fs es ns q), lines_fit),
      ap (λ x. over_filled x id name) (text_is fs es ns q) ∙ under,
    )

  pub asks_filters : Asks at₁ at₂ s
  asks_filters = let b = bounds in asks start sized _ _ b.0 b.1 (omega arith)

  -- what it ensures
  abbrev pub Pushes : Table → ℕ → ℕ → ℕ → List ℕ → Option ℕ → List ℕ → Type 0
  Pushes table from to earlier t r t₁ =
      (r ≡ all_answer (new_bytes table session (rules (16 + shape.text) t) id name) earlier (mid_of from (to - from) t))
      × (t₁ ≡ take from t ++ (all_pushed (new_bytes table session (rules (16 + shape.text) t) id name) earlier (mid_of from (to - from) t) ++ drop to t))

  pushed_table : {r : Option ℕ} {t t₁ st : List ℕ} {from to earlier : ℕ} (table : Table) (from₁ to₁ earlier₁ : ℕ) (part : List ℕ) (whole : List ℕ → List ℕ)
      → t ≡ st → rules (16 + shape.text) t ≡ v.text → mid_of from₁ (to₁ - from₁) st ≡ part → ((f : List ℕ → List ℕ) → replaced from₁ to₁ f st ≡ whole (f part))
      → from ≡ from₁ → to ≡ to₁ → earlier ≡ earlier₁ → Pushes table from to earlier t r t₁
      → (r ≡ all_answer (new_bytes table session v.text id name) earlier₁ part) × (t₁ ≡ whole (all_pushed (new_bytes table session v.text id name) earlier₁ part))
  unfolding replaced
  pushed_table table from₁ to₁ earlier₁ part whole q text m p a b d h = (
    h.0
        ∙ ((λ i. all_answer (new_bytes table session (text i) id name) (d i) (mid_of (a i) (b i - a i) (q i))) ∙ ap (all_answer (new_bytes table session v.text id name) earlier₁) m),
    h.1
        ∙ ((λ i. replaced (a i) (b i) (all_pushed (new_bytes table session (text i) id name) (d i)) (q i)) ∙ p (all_pushed (new_bytes table session v.text id name) earlier₁)),
  )

  filters_called : {t₁ : List ℕ} {r : Option ℕ} → Pushes Filters at₁ at₂ shape.filters s r t₁
      → (r ≡ all_answer (new_bytes Filters session v.text id name) (length v.filters) (filter_area v))
      × (t₁ ≡ state v (all_pushed (new_bytes Filters session v.text id name) (length v.filters) (filter_area v)) (eq_area v) (note_area v))
  filters_called h =
      pushed_table Filters _ _ _ (filter_area v) (λ l. state v l (eq_area v) (note_area v)) start (text_is (filter_area v) (eq_area v) (note_area v) start) (mid_filters v F _ _ _ sized) (put_filters v F _ _ _ sized)
      at_filters at_eqs (ap (λ (h : Shape). h.filters) G.shaped) h

  pub filters_full : {t₁ t₂ : List ℕ} {r : Option ℕ} → Pushes Filters at₁ at₂ shape.filters s r t₁ → r ≡ None
      → t₂ ≡ put_back shape shape.counts.filters shape.eqs shape.notes t₁ → (Some 8 ≡ cause event (view s)) × (t₂ ≡ after event s)
  filters_full {t₁} h full e =
      let p = filters_called h in
      let S = filters-stopped p.0 full in
      let size : Sized v filters_pushed (eq_area v) (note_area v) = record { filters = filters_stop_length S.1; eqs = sized.eqs; notes = sized.notes } in
      let put : put_back shape shape.counts.filters shape.eqs shape.notes t₁ ≡ put_back (shape_of_lem v) v.counts.filters (length v.eqs) (length v.notes) (state v filters_pushed (eq_area v) (note_area v))
      = λ i. put_back (G.shaped i) (G.shaped i).counts.filters (G.shaped i).eqs (G.shaped i).notes (p.1 i) in
      let back = state_back v F v.counts.filters (length v.eqs) (length v.notes) size sized sized (filters_stop_back S.1) (none_back eq_size (length v.eqs) (eq_area v)) (none_back note_size (length v.notes) (note_area v)) in
      refused_as 8 (store_cause ∙ rw (lt-ltb v.counts.filters (length w.filters) S.0)) (e ∙ (put ∙ (back ∙ sym start)))

  -- the filters are added; the eqs too; the notes too
  pub record FiltersAdded (n : ℕ) (t : List ℕ) : Type 0 where
    pub fits : length w.filters ≤ v.counts.filters
    pub count : n ≡ length w.filters
    pub few : n < 65536
    pub left : t ≡ state v FA (eq_area v) (note_area v)

  pub record EqsAdded (n : ℕ) (t : List ℕ) : Type 0 where
    pub fits : length w.eqs ≤ v.counts.eqs
    pub count : n ≡ length w.eqs
    pub few : n < 65536
    pub left : t ≡ state v FA EA (note_area v)

  pub record NotesAdded (n : ℕ) (t : List ℕ) : Type 0 where
    pub fits : length w.notes ≤ v.counts.notes
    pub count : n ≡ length w.notes
    pub few : n < 65536
    pub left : t ≡ state v FA EA NA

  pub filters_added : {t : List ℕ} {r : Option ℕ} {n : ℕ} → Pushes Filters at₁ at₂ shape.filters s r t → r ≡ Some n → FiltersAdded n t
  filters_added h e =
      let p = filters_called h in
      let U = filters_used_lem p.0 e in
      record { fits = U.0; count = U.1; few = omega (arith, U.0, U.1, rows_fit); left = p.1 ∙ ap (λ l. state v l (eq_area v) (note_area v)) U.2 }

  module _ {n : ℕ} {t : List ℕ} (A : FiltersAdded n t) where
    sized₁ : Sized v FA (eq_area v) (note_area v)
    sized₁ = record { filters = filters_length A.fits; eqs = sized.eqs; notes = sized.notes }

    pub asks_eqs : Asks at₂ at₃ t
    asks_eqs = let b = bounds in asks A.left sized₁ _ _ (omega arith) b.2 b.3

    eqs_called : {t₁ : List ℕ} {r : Option ℕ} → Pushes Eqs at₂ at₃ shape.eqs t r t₁
        → (r ≡ all_answer (new_bytes Eqs session v.text id name) (length v.eqs) (eq_area v))
        × (t₁ ≡ state v FA (all_pushed (new_bytes Eqs session v.text id name) (length v.eqs) (eq_area v)) (note_area v))
    eqs_called h =
        pushed_table Eqs _ _ _ (eq_area v) (λ l. state v FA l (note_area v)) A.left (text_is FA (eq_area v) (note_area v) A.left) (mid_eqs v F _ _ _ sized₁) (put_eqs v F _ _ _ sized₁)
        at_eqs at_notes (ap (λ (h : Shape). h.eqs) G.shaped) h

    pub eqs_full : {t₁ t₂ : List ℕ} {r : Option ℕ} → Pushes Eqs at₂ at₃ shape.eqs t r t₁ → r ≡ None
        → t₂ ≡ put_back shape n shape.counts.eqs shape.notes t₁ → (Some 9 ≡ cause event (view s)) × (t₂ ≡ after event s)
    eqs_full {t₁} h full e =
        let p = eqs_called h in
        let S = eqs-stopped p.0 full in
        let long = eqs_stop_length S.1 in
        let size : Sized v FA eqs_pushed (note_area v) = record { filters = filters_length A.fits; eqs = long; notes = sized.notes } in
        let size₁ : Sized v (filter_area v) eqs_pushed (note_area v) = record { filters = sized.filters; eqs = long; notes = sized.notes } in
        let put : put_back shape n shape.counts.eqs shape.notes t₁ ≡ put_back (shape_of_lem v) (length w.filters) v.counts.eqs (length v.notes) (state v FA eqs_pushed (note_area v))
        = λ i. put_back (G.shaped i) (A.count i) (G.shaped i).counts.eqs (G.shaped i).notes (p.1 i) in
        let back = state_back v F (length w.filters) v.counts.eqs (length v.notes) size size₁ sized (filters_back A.fits) (eqs_stop_back S.1) (none_back note_size (length v.notes) (note_area v)) in
        refused_as 9 (store_cause ∙ rw (le-ltb v.counts.filters (length w.filters) A.fits, lt-ltb v.counts.eqs (length w.eqs) S.0)) (e ∙ (put ∙ (back ∙ sym start)))

    pub eqs_added : {t₁ : List ℕ} {r : Option ℕ} {m : ℕ} → Pushes Eqs at₂ at₃ shape.eqs t r t₁ → r ≡ Some m → EqsAdded m t₁
    eqs_added h e =
        let p = eqs_called h in
        let U = eqs_used_lem p.0 e in
        record { fits = U.0; count = U.1; few = omega (arith, U.0, U.1, rows_fit); left = p.1 ∙ ap (λ l. state v FA l (note_area v)) U.2 }

    module _ {m : ℕ} {t₁ : List ℕ} (B : EqsAdded m t₁) where
      sized₂ : Sized v FA EA (note_area v)
      sized₂ = record { filters = filters_length A.fits; eqs = eqs_length B.fits; notes = sized.notes }

      pub asks_notes : Asks at₃ end t₁
      asks_notes = let b = bounds in asks B.left sized₂ _ _ (omega arith) b.3 (omega arith)

      notes_called : {t₂ : List ℕ} {r : Option ℕ} → Pushes Notes at₃ end shape.notes t₁ r t₂
          → (r ≡ all_answer (new_bytes Notes session v.text id name) (length v.notes) (note_area v))
          × (t₂ ≡ state v FA EA (all_pushed (new_bytes Notes session v.text id name) (length v.notes) (note_area v)))
      notes_called h =
          pushed_table Notes _ _ _ (note_area v) (λ l. state v FA EA l) B.left (text_is FA EA (note_area v) B.left) (mid_notes v F _ _ _ sized₂) (put_notes v F _ _ _ sized₂)
          at_notes at_end (ap (λ (h : Shape). h.notes) G.shaped) h

      pub notes_full : {t₂ t₃ : List ℕ} {r : Option ℕ} → Pushes Notes at₃ end shape.notes t₁ r t₂ → r ≡ None
          → t₃ ≡ put_back shape n m shape.counts.notes t₂ → (Some 10 ≡ cause event (view s)) × (t₃ ≡ after event s)
      notes_full {t₂} h full e =
          let p = notes_called h in
          let S = notes-stopped p.0 full in
          let long = notes_stop_length S.1 in
          let size : Sized v FA EA notes_pushed = record { filters = filters_length A.fits; eqs = eqs_length B.fits; notes = long } in
          let size₁ : Sized v (filter_area v) EA notes_pushed = record { filters = sized.filters; eqs = eqs_length B.fits; notes = long } in
          let size₂ : Sized v (filter_area v) (eq_area v) notes_pushed = record { filters = sized.filters; eqs = sized.eqs; notes = long } in
          let put : put_back shape n m shape.counts.notes t₂ ≡ put_back (shape_of_lem v) (length w.filters) (length w.eqs) v.counts.notes (state v FA EA notes_pushed)
          = λ i. put_back (G.shaped i) (A.count i) (B.count i) (G.shaped i).counts.notes (p.1 i) in
          let back = state_back v F (length w.filters) (length w.eqs) v.counts.notes size size₁ size₂ (filters_back A.fits) (eqs_back B.fits) (notes_stop_back S.1) in
          refused_as 10
          (store_cause ∙ rw (le-ltb v.counts.filters (length w.filters) A.fits, le-ltb v.counts.eqs (length w.eqs) B.fits, lt-ltb v.counts.notes (length w.notes) S.0))
          (e ∙ (put ∙ (back ∙ sym start)))

      pub notes_added : {t₂ : List ℕ} {r : Option ℕ} {k : ℕ} → Pushes Notes at₃ end shape.notes t₁ r t₂ → r ≡ Some k → NotesAdded k t₂
      notes_added h e =
          let p = notes_called h in
          let U = notes_used_lem p.0 e in
          record { fits = U.0; count = U.1; few = omega (arith, U.0, U.1, rows_fit); left = p.1 ∙ ap (λ l. state v FA EA l) U.2 }

      -- the numbers in the header
      pub all_added : {t₂ t₃ t₄ t₅ : List ℕ} {k : ℕ} → NotesAdded k t₂ → t₃ ≡ pasted 10 (u16 n) t₂ → t₄ ≡ pasted 12 (u16 m) t₃ → t₅ ≡ pasted 14 (u16 k) t₄
          → (None ≡ cause event (view s)) × (t₅ ≡ after event s)
      unfolding after stored
      all_added {k = k} C e₁ e₂ e₃ =
          let done : cause event (Some v) ≡ None
          = store_cause ∙ rw (le-ltb v.counts.filters (length w.filters) A.fits, le-ltb v.counts.eqs (length w.eqs) B.fits, le-ltb v.counts.notes (length w.notes) C.fits) in
          let put = e₃ ∙ (ap (pasted 14 (u16 k)) (e₂ ∙ ap (pasted 12 (u16 m)) e₁) ∙ (λ i. pasted 14 (u16 (C.count i)) (pasted 12 (u16 (B.count i)) (pasted 10 (u16 (A.count i)) (C.left i))))) in
          let laid = put ∙ (put_used v.counts (length v.text) (length v.filters) (length v.eqs) (length v.notes) (pad v.counts.bytes v.text ++ (FA ++ (EA ++ NA))) (length w.filters) (length w.eqs) (length w.notes) ∙ laid_out) in
          (sym (ap (cause event) is ∙ done), laid ∙ sym (ap (stored event s) is ∙ ap (λ o. cond (is-cause o) s (layout w)) done))
        where
          laid_out : header v.counts (length v.text) (length w.filters) (length w.eqs) (length w.notes) ++ (pad v.counts.bytes v.text ++ (FA ++ (EA ++ NA))) ≡ layout w
          laid_out = unfold layout effect in refl
