use Rattle.std.proofs.Common.{◌≡◌, drop, slice_get}
use Rattle.pb_memtablet.specs.Chunks.{chunk_entries}
use Rattle.pb_memtablet.proofs.chunks.entry_among.Given as goal

-- what is left to find in the chunks that are left
abbrev pub invariant-loop-chunk : goal.invariant-loop-chunk
invariant-loop-chunk g l = slice_get (chunk_entries (drop l.chunk-index l.chunks)) l.left ≡ slice_get (chunk_entries l.chunks) l.place
