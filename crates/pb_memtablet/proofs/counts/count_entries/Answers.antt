use Rattle.std.proofs.Common.{take, arith}
use Rattle.std.proofs.lemmas.List.{length-take}
use Rattle.std.proofs.lemmas.List.Elements.{All-take}
use Rattle.pb_memtablet.specs.Chunks.{IsChunk}
use Rattle.pb_memtablet.proofs.Pieces.{length-chunk_entries}
use Rattle.pb_memtablet.proofs.counts.count_entries.Goals as goal

pub overflow_add-count : goal.overflow_add-count
overflow_add-count g c =
    let i = c.loop-chunk.chunk-index in
    let chunk : IsChunk c.chunk-item.result = rw c.chunk-item.is (c.requires.each i c.chunk-item.result c.loop-chunk-test.true) in
    let most = length-chunk_entries (take i c.args.block.now) (All-take IsChunk i c.args.block.now c.requires.each) in
    omega (arith, most, length-take i c.args.block.now, chunk.fits, c.loop-chunk.invariant, c.len-count.ensures, c.requires.few, c.loop-chunk-test.true)
