use Rattle.std.proofs.Common.{◌≤◌, ◌+◌, ◌++◌, ℕ, List, length, vec_len, vec_capacity, All}
use Rattle.pb_memtablet.specs.Chunks.{IsChunk}
use Rattle.pb_memtablet.specs.BlockCounts.{AreCounts}
use Rattle.pb_memtablet.proofs.counts.count_blocks.Given as goal

-- the numbers so far are those of the chunks before the rest
abbrev pub invariant-loop-rest : goal.invariant-loop-rest
invariant-loop-rest g l = record {
  counts : (ns : List ℕ) → AreCounts ns l.rest → AreCounts (l.counts.items ++ ns) l.chunks;
  each : All IsChunk l.rest;
  room : vec_len l.counts + length l.rest ≤ vec_capacity l.counts;
  capacity : vec_capacity l.fn.counts ≤ vec_capacity l.counts;
}

abbrev pub decreases-loop-rest : goal.decreases-loop-rest
decreases-loop-rest g l = length l.rest
