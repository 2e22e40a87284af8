-- What the bytes of a log stand for, and when a log is at rest.
use Rattle.std.specs.Prelude.{◌≡◌, ◌⊎◌, ℕ, ◌+◌, ◌<◌, ◌≤◌, ◌^◌, List, [], ◌∷◌, ◌++◌, length}
use Rattle.std.specs.Int.{w32, w64, to_le_bytes}
use Rattle.sqlite_disk.specs.Disk.{Only}
use Rattle.sqlite_disk.specs.Digest.{digest}

-- A record whose gate is at this place, without the gate: its length and its sum, low bytes first, and its bytes. The place is the
-- key of the sum.
abbrev pub body : ℕ → List ℕ → List ℕ
body at r = (to_le_bytes w32 (length r) ++ to_le_bytes w64 (digest at r)) ++ r

-- a record at this place: an open gate, 0xa5, and its body
abbrev pub block : ℕ → List ℕ → List ℕ
block at r = 165 ∷ body at r

-- records from this place on, one after the other
abbrev pub blocks : ℕ → List (List ℕ) → List ℕ
blocks at [] = []
blocks at (r ∷ rs) = block at r ++ blocks (at + 13 + length r) rs

-- a whole record stands at the front, after a gate at this place
pub record Stands (at : ℕ) (bytes : List ℕ) : Type 0 where
  pub item : List ℕ
  pub rest : List ℕ
  pub short : length item < 2 ^ 32
  pub is : bytes ≡ body at item ++ rest

-- the same with the gate, which is open
pub record StandsOpen (at : ℕ) (bytes : List ℕ) : Type 0 where
  pub item : List ℕ
  pub rest : List ℕ
  pub short : length item < 2 ^ 32
  pub is : bytes ≡ block at item ++ rest

-- After a closed gate at this place stand its record and the next one, whose gate is open: so that gate was open once.
pub record Hides (at : ℕ) (bytes : List ℕ) : Type 0 where
  pub hidden : Stands at bytes
  pub next : StandsOpen (at + 13 + length hidden.item) hidden.rest

-- what a put leaves after the last record, from this place on: a closed gate, and what may be torn
pub record EndsShut (at : ℕ) (bytes : List ℕ) : Type 0 where
  pub torn : List ℕ
  pub is : bytes ≡ 0 ∷ torn
  pub bare : Hides at torn → ⊥

-- each has a length of four bytes
abbrev pub AreShort : List (List ℕ) → Type 0
AreShort [] = Unit {0}
AreShort (r ∷ rs) = (length r < 2 ^ 32) × AreShort rs

-- These are the records of a file: their blocks come first, and what follows is no whole record after an open gate.
pub record IsLog (file : List ℕ) (rs : List (List ℕ)) : Type 0 where
  pub tail : List ℕ
  pub is : file ≡ blocks 0 rs ++ tail
  pub ends : StandsOpen (length (blocks 0 rs)) tail → ⊥
  pub short : AreShort rs

-- the records, with one more or without it
abbrev pub IsBeforeOrAfter : List (List ℕ) → List ℕ → List ℕ → Type 0
IsBeforeOrAfter rs r file = IsLog file rs ⊎ IsLog file (rs ++ r ∷ [])

-- the blocks of these records, and then what a put leaves
pub record IsSound (file : List ℕ) (rs : List (List ℕ)) : Type 0 where
  pub tail : List ℕ
  pub is : file ≡ blocks 0 rs ++ tail
  pub shut : EndsShut (length (blocks 0 rs)) tail
  pub short : AreShort rs

-- These are the records of a file that is opened: it is sound, or it is new, since a crash in the first open leaves at most one byte.
abbrev pub IsReadable : List ℕ → List (List ℕ) → Type 0
IsReadable file rs = IsSound file rs ⊎ ((length file ≤ 1) × (rs ≡ []))

-- the file begins with the blocks of these records and a closed gate, whatever stands after it
pub record IsShut (file : List ℕ) (rs : List (List ℕ)) : Type 0 where
  pub torn : List ℕ
  pub is : file ≡ blocks 0 rs ++ 0 ∷ torn
  pub short : AreShort rs

-- so it begins with these records, with one more or without it
abbrev pub IsShutBeforeOrAfter : List (List ℕ) → List ℕ → List ℕ → Type 0
IsShutBeforeOrAfter rs r file = IsShut file rs ⊎ IsShut file (rs ++ r ∷ [])

-- it begins so with some records, or is new
abbrev pub IsShutOrNew : List ℕ → Type 0
IsShutOrNew file = ((rs : List (List ℕ)) × IsShut file rs) ⊎ (length file ≤ 1)

-- The file begins with the blocks of these records and a closed gate, all of it is on the disk, and the gate's place is known.
-- What stands after the gate is of no account.
pub record IsAtRest (seen : List ℕ) (may_leave : List ℕ → Type 0) (end : ℕ) (rs : List (List ℕ)) : Type 0 where
  pub torn : List ℕ
  pub is : seen ≡ blocks 0 rs ++ 0 ∷ torn
  pub ends_at : end ≡ length (blocks 0 rs)
  pub short : AreShort rs
  pub durable : Only seen may_leave
