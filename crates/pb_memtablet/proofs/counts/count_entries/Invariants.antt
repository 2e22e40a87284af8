use Rattle.std.proofs.Common.{◌≡◌, length, take}
use Rattle.pb_memtablet.specs.Chunks.{chunk_entries}
use Rattle.pb_memtablet.proofs.counts.count_entries.Given as goal

abbrev pub invariant-loop-chunk : goal.invariant-loop-chunk
invariant-loop-chunk g l = l.count ≡ length (chunk_entries (take l.chunk-index l.block))
