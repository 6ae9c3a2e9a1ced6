use Rattle.store.specs.Mem.{mem}
use Rattle.abi.proofs.Statuses.{chunk_fits}
use Rattle.owned.proofs.memory.own_chunk.Goals as goal

pub copy-requires : goal.copy-requires
copy-requires c =
    chunk_fits (mem c.args.bytes.now c.args.keys.now c.args.order.now c.args.words.now) c.args.page c.args.number c.args.output.now c.if-output-ne-CHUNK_BYTES.false c.chunk_of-chunk.ensures
