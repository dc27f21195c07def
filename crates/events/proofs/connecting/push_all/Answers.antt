-- `events::connecting::push_all` meets its contract: the stretch and the rule text are those of the store. Assumes nothing.
use Prim.Native.Nat.{◌+◌, ◌-◌}
use native.Mathlib.Omega.{arith}
use mathlib.Core.Path.{◌≡◌}
use lib.ListN.{take, drop}
use lib.Seq.{drop-drop}
use Rattle.events.specs.Pushes.{table_at, table_end, replaced}
use Rattle.events.proofs.ConnectLaws.{rules, rules_front}
use Rattle.events.proofs.connecting.push_all.Goals as goal

pub push_rows-requires : goal.push_rows-requires
push_rows-requires c =
    let h = c.requires.in_order in
    let text : take (16 + c.args.shape.text - 16) (drop 16 c.split_at_mut-front.result.0.now) ≡ rules (16 + c.args.shape.text) c.args.store.now =
    rw (c.split_at_mut-front.ensures.front, c.stretch-from.ensures.from) (rules_front (16 + c.args.shape.text) (table_at c.args.table c.args.shape.counts) c.args.store.now (omega arith) h.0 (omega (arith, h))) in
    record { few_lines = rw text c.requires.few_lines; none_over = rw text c.requires.none_over }

pub returns : goal.returns
unfolding replaced
returns c =
    let h = c.requires.in_order in
    let at = table_at c.args.table c.args.shape.counts in
    let end = table_end c.args.table c.args.shape.counts in
    let text : take (16 + c.args.shape.text - 16) (drop 16 c.split_at_mut-front.result.0.now) ≡ rules (16 + c.args.shape.text) c.args.store.now =
    rw (c.split_at_mut-front.ensures.front, c.stretch-from.ensures.from) (rules_front (16 + c.args.shape.text) at c.args.store.now (omega arith) h.0 (omega (arith, h))) in
    let whole : at + (end - at) ≡ end = omega (arith, h) in
    record {
      value = rw (text, c.split_at_mut-front.ensures.back, c.stretch-from.ensures.from, c.stretch-from.ensures.to, c.used.ensures) at c.push_rows.ensures.value;
      store_after =
          let new = rw (text, c.split_at_mut-front.ensures.back, c.stretch-from.ensures.from, c.stretch-from.ensures.to, c.used.ensures) at c.push_rows.ensures.part_after in
          rw (
            new,
            c.split_at_mut-front.ensures.front,
            c.split_at_mut-front.ensures.back,
            c.stretch-from.ensures.from,
            c.stretch-from.ensures.to,
            drop-drop (end - at) at c.args.store.now,
            whole,
          );
    }
