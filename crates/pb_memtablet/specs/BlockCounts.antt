-- How many entries blocks of chunks have, a part of what a sorted list keeps. Only the last block may be short.
use Rattle.std.specs.Prelude.{◌≡◌, ◌<◌, ◌≤◌, ◌+◌, ◌*◌, ℕ, List, [], ◌∷◌, length, take, drop, Vec}
use Rattle.pb_memtablet.specs.declared.counts.TheConstants.{BLOCK}
use Rattle.pb_memtablet.specs.Chunks.{chunk_entries}

-- the number of entries of each BLOCK chunks, in order
abbrev pub AreCounts : {E A : Type 0} → List ℕ → List (Vec E A) → Type 0
AreCounts [] cs = cs ≡ []
AreCounts (n ∷ ns) cs = (n ≡ length (chunk_entries (take BLOCK cs))) × AreCounts ns (drop BLOCK cs)

-- the chunk at i stands in the block at b
pub record IsInBlock (i b : ℕ) : Type 0 where
  pub from : b * BLOCK ≤ i
  pub before : i < b * BLOCK + BLOCK
