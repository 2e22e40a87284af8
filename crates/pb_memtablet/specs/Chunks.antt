-- Chunks of entries, and the one list that they are together. Callers of a sorted list see that list alone. Its invariant and the
-- contracts below it state how it is parted, so that nobody else depends on the length of a chunk.
use Rattle.std.proofs.Common.{suc, ◌≡◌, ◌<◌, ◌≤◌, ℕ, Bool, false, not, IsTrue, List, [], ◌∷◌, length, take, drop, vec_len, vec_capacity, flat_map, filter, All, Ordering, Less, Greater, is_lt, is_le, Vec}
use Rattle.std.specs.FinMap as map
use Rattle.pb_memtablet.specs.declared.chunks.TheConstants.{CHUNK}

-- the chunks' entries, one chunk after the other
abbrev pub chunk_entries : {E A : Type 0} → List (Vec E A) → List E
chunk_entries cs = flat_map (λ c. c.items) cs

-- neither empty nor too long, and with the memory of a full one, so that a put asks for none
pub record IsChunk {E A : Type 0} (c : Vec E A) : Type 0 where
  pub filled : 0 < vec_len c
  pub fits : vec_len c ≤ CHUNK
  pub roomy : CHUNK ≤ vec_capacity c

-- empty, with the memory of a full one
pub record IsSpare {E A : Type 0} (c : Vec E A) : Type 0 where
  pub empty : vec_len c ≡ 0
  pub roomy : CHUNK ≤ vec_capacity c

-- neither empty nor full, as both parts of a full chunk are
pub record IsHalf {E A : Type 0} (c : Vec E A) : Type 0 where
  pub filled : 0 < vec_len c
  pub short : vec_len c < CHUNK

-- chunks of one sorted list
pub record AreChunks {K X A : Type 0} (R : K → K → Ordering) (cs : List (Vec (K × X) A)) : Type 0 where
  pub sorted : IsTrue (map.is_sorted R (chunk_entries cs))
  pub each : All IsChunk cs

-- the entries whose keys are at most k, of which the last is what a look for the newest finds
abbrev pub entries_up_to : {K X : Type 0} → (K → K → Ordering) → K → List (K × X) → List (K × X)
entries_up_to R k es = filter (λ e. not (is_lt (R k e.0))) es

-- the entries whose keys are above k, of which the first comes next in a walk
abbrev pub entries_above : {K X : Type 0} → (K → K → Ordering) → K → List (K × X) → List (K × X)
entries_above R k es = filter (λ e. is_lt (R k e.0)) es

-- each key is below k
abbrev pub AreBelow : {K X : Type 0} → (K → K → Ordering) → K → List (K × X) → Type 0
AreBelow R k [] = Unit {0}
AreBelow R k (e ∷ es) = (R k e.0 ≡ Greater) × AreBelow R k es

-- each key is above k
abbrev pub AreAbove : {K X : Type 0} → (K → K → Ordering) → K → List (K × X) → Type 0
AreAbove R k [] = Unit {0}
AreAbove R k (e ∷ es) = (R k e.0 ≡ Less) × AreAbove R k es

-- k belongs into the chunk at i: the chunks before it are below k, and those after it above
pub record IsHome {K X A : Type 0} (R : K → K → Ordering) (cs : List (Vec (K × X) A)) (k : K) (i : ℕ) : Type 0 where
  pub within : i < length cs
  pub below : AreBelow R k (chunk_entries (take i cs))
  pub above : AreAbove R k (chunk_entries (drop (suc i) cs))

-- whether the first key is at most k: the last chunk of which it holds is where k belongs
abbrev pub starts_by : {K X : Type 0} → (K → K → Ordering) → K → List (K × X) → Bool
starts_by R k [] = false
starts_by R k (e ∷ es) = is_le (R e.0 k)
