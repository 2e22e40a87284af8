use Rattle.std.proofs.Common.{◌≡◌, ◌*◌, drop, slice_get}
use Rattle.pb_memtablet.specs.Chunks.{chunk_entries}
use Rattle.pb_memtablet.specs.BlockCounts.{AreCounts}
use Rattle.pb_memtablet.specs.declared.counts.TheConstants.{BLOCK}
use Rattle.pb_memtablet.proofs.counts.entry_at.Given as goal

-- what is left to find in the chunks from this block on
abbrev pub invariant-loop-block : goal.invariant-loop-block
invariant-loop-block g l = record {
  counts : AreCounts (drop l.block l.counts) (drop (l.block * BLOCK) l.chunks);
  found : slice_get (chunk_entries (drop (l.block * BLOCK) l.chunks)) l.left ≡ slice_get (chunk_entries l.chunks) l.place;
}
