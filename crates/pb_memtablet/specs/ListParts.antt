-- What the parts of a sorted list in chunks keep, between calls: the invariant of `SortedList`.
use Rattle.std.specs.Prelude.{◌≡◌, ◌≤◌, ◌+◌, ◌-◌, ℕ, length, min, vec_len, vec_capacity, All, Vec}
use Rattle.std.specs.declared.cmp.Ordering.{Ordering}
use Rattle.pb_memtablet.specs.BlockCounts.{AreCounts}
use Rattle.pb_memtablet.specs.Chunks.{chunk_entries, AreChunks, IsSpare}

-- for how many puts there is room: each takes a spare at most, and is one more to count at most
abbrev pub puts_left : {S A T B : Type 0} → Vec S A → Vec T B → ℕ
puts_left spares tally = min (vec_len spares) (vec_capacity tally - vec_len tally)

-- sorted chunks, spares, a place for each spare among the chunks, so that none of them has to be made room for, the
-- numbers of entries of blocks, and a unit for each entry
pub record AreListParts {K X T A B C D : Type 0} (R : K → K → Ordering) (chunks spares : Vec (Vec (K × X) A) B) (counts : Vec ℕ C) (tally : Vec T D) : Type 0 where
  pub sorted : AreChunks R chunks.items
  pub spare : All IsSpare spares.items
  pub room : vec_len chunks + vec_len spares ≤ vec_capacity chunks
  pub blocks : AreCounts counts.items chunks.items
  pub blocks_room : vec_len chunks + vec_len spares ≤ vec_capacity counts
  pub counted : vec_len tally ≡ length (chunk_entries chunks.items)
