use Rattle.std.proofs.Common.{◌≡◌, ◌≤◌, ◌+◌, ◌++◌, reverse, vec_len, vec_capacity}
use Rattle.pb_memtablet.specs.declared.chunks.TheConstants.{CHUNK, HALF}
use Rattle.pb_memtablet.proofs.chunks.move_half.Given as goal

-- the entries moved so far, in turned order, come after those that are left
abbrev pub invariant-loop-chunk : goal.invariant-loop-chunk
invariant-loop-chunk g l = record {
  entries : l.chunk.items ++ reverse l.empty.items ≡ l.fn.chunk.items;
  len : vec_len l.chunk + vec_len l.empty ≡ CHUNK;
  left : HALF ≤ vec_len l.chunk;
  capacity : vec_capacity l.fn.chunk ≤ vec_capacity l.chunk;
  room : CHUNK ≤ vec_capacity l.empty;
  moved_capacity : vec_capacity l.fn.empty ≤ vec_capacity l.empty;
}

abbrev pub decreases-loop-chunk : goal.decreases-loop-chunk
decreases-loop-chunk g l = vec_len l.chunk
