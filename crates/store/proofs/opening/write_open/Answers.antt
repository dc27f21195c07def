-- `store::opening::write_open` meets its contract: each write is into the zeros that `clear_store` left. Assumes nothing.
use Rattle.store.proofs.OpenLaws.{write_open}
use Rattle.store.proofs.opening.write_open.Goals as goal

pub clear_store-requires : goal.clear_store-requires
clear_store-requires c =
    c.requires.store_len

pub returns : goal.returns
returns c =
    write_open c.args.counts c.args.text.now c.requires.text_len_bound c.clear_store.ensures c.put_number.ensures
    c.put_number-2.ensures c.put_number-3.ensures c.put_number-4.ensures c.put_number-5.ensures c.paste.ensures.buffer_after
