use Rattle.store.specs.Mem.{mem}
use Rattle.abi.proofs.Statuses.{chunk_asks, chunk_fits}
use Rattle.zincpapaya.proofs.memory.zp_chunk.Goals as goal

pub chunk_of-chunk-requires : goal.chunk_of-chunk-requires
chunk_of-chunk-requires c =
    let asked = chunk_asks (mem c.args.bytes.now c.args.keys.now c.args.order.now c.args.words.now) c.args.page c.args.number c.args.block.now c.chunk_check.result c.chunk_check.ensures c.in-Ok.is in
    record { well_formed = asked.0; block_len = asked.1 }

pub copy-requires : goal.copy-requires
copy-requires c =
    chunk_fits (mem c.args.bytes.now c.args.keys.now c.args.order.now c.args.words.now) c.args.page c.args.number c.args.output.now c.if-output-ne-CHUNK_BYTES.false c.chunk_of-chunk.ensures
