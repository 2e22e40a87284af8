-- What the records of a log are: a snapshot, if it begins with one, and scripts, whose changes are made.
use Rattle.std.specs.Prelude.{◌≡◌, ℕ, ◌-◌, ◌^◌, ◌==◌, min, Bool, true, false, if◌then◌else◌, codes, decimal, List, [], ◌∷◌, ◌++◌, length, Option, Some, None, Result, Ok, IsUtf8}
use Rattle.pb_log.specs.Records.{IsShut}
use Rattle.pb_keep.specs.Words.{AreInOrder, FitsSnapshot, IsAtRest, IsCarriedOver, IsMarkedBehind, HasRecords, KeptTable, ObserverOf, StateOf, SnapshotOf, Writes, header, opened_table, script_of, snapshot_bytes, ◌>>=◌}

-- the changes of records, each of them a script, in order; or the fault of the first that is none
unfoldable pub changes_of : List (List ℕ) → Result (List Writes) (ℕ × ℕ)
changes_of [] = Ok []
changes_of (script ∷ scripts) = do
  first ← script_of script
  others ← changes_of scripts
  Ok (first ++ others)

-- each record is UTF-8
abbrev pub AreTexts : List (List ℕ) → Type 0
AreTexts [] = Unit {0}
AreTexts (r ∷ rs) = IsUtf8 r × AreTexts rs

-- a record that isn't UTF-8, or that isn't read as a script
abbrev pub IsNoScript : List ℕ → Type 0
IsNoScript r = (changes : List Writes) → IsUtf8 r → script_of r ≡ Ok changes → ⊥

-- one of these records at least
abbrev pub HaveNoScript : List (List ℕ) → Type 0
HaveNoScript rs = (changes : List Writes) → AreTexts rs → changes_of rs ≡ Ok changes → ⊥

-- how many changes are reported: as many as a `u64` can count
abbrev pub reported_count : ℕ → ℕ
reported_count n = min n (2 ^ 64 - 1)

-- ---- what a log begins with

-- its limit of entries and its manifest, and where an earlier generation went before, the snapshot that was left of that
pub record Origin : Type 0 where
  pub limit : ℕ
  pub manifest : List ℕ
  pub snapshot : Option SnapshotOf

abbrev pub origin_of : ℕ → List ℕ → Option SnapshotOf → Origin
origin_of limit manifest snapshot = record { limit = limit; manifest = manifest; snapshot = snapshot }

-- What stands in the first record: the limit in a line, and then the manifest. A log whose table may have any number of entries has no
-- such line.
unfoldable pub head : ℕ → List ℕ → List ℕ
head limit manifest = if limit == (2 ^ 64 - 1) then manifest else codes "limit " ++ (decimal limit ++ (10 ∷ manifest))

abbrev pub head_of : Origin → List ℕ
head_of origin = head origin.limit origin.manifest

-- the record of the snapshot, if there is one
abbrev pub snapshot_records : Option SnapshotOf → List (List ℕ)
snapshot_records None = []
snapshot_records (Some s) = snapshot_bytes s ∷ []

-- the first record begins as that of a snapshot, with a byte that no text has
abbrev pub begins_as_snapshot : List (List ℕ) → Bool
begins_as_snapshot [] = false
begins_as_snapshot ([] ∷ records) = false
begins_as_snapshot ((b ∷ rest) ∷ records) = b == 255

-- its numbers are within their bounds
abbrev pub FitsIfAny : Option SnapshotOf → Type 0
FitsIfAny None = Unit {0}
FitsIfAny (Some s) = FitsSnapshot s

-- above this commit all writes are there
abbrev pub since_in : Option SnapshotOf → ℕ
since_in None = 0
since_in (Some s) = s.clock

abbrev pub kept_since : Origin → ℕ
kept_since origin = since_in origin.snapshot

-- the table with which the first change finds itself: as opened, or as the snapshot has it, with stats for each observer, and a mark on
-- each cell that one isn't up to date on
abbrev pub IsFirstOf : List ObserverOf → Option SnapshotOf → KeptTable → Type 0
IsFirstOf observers None first = first ≡ opened_table observers
IsFirstOf observers (Some s) first =
    ((over : StateOf) × IsCarriedOver observers 1 s.clock s.cells over × IsMarkedBehind over first.state) × ((first.stats ≡ s.stats) × (length s.stats ≡ length observers))

-- a table with these observers can begin with this snapshot, and this is its record
pub record IsSnapshotFor (observers : List ObserverOf) (bytes : List ℕ) (s : SnapshotOf) : Type 0 where
  pub fits : FitsSnapshot s
  pub written : bytes ≡ snapshot_bytes s
  pub as_many : length s.stats ≡ length observers
  pub in_order : AreInOrder observers s.clock s.cells

-- the first record begins as that of a snapshot, and is of none that a table with these observers can begin with
pub record LacksSnapshot (observers : List ObserverOf) (records : List (List ℕ)) : Type 0 where
  pub first : List ℕ
  pub others : List (List ℕ)
  pub records_are : records ≡ first ∷ others
  pub begins_so : begins_as_snapshot records ≡ true
  pub lacks : (s : SnapshotOf) → IsSnapshotFor observers first s → ⊥

-- what a table begins with that was opened with these records: their snapshot is taken off, and its clock is known
pub record IsBegunWith (observers : List ObserverOf) (records scripts : List (List ℕ)) (since : ℕ) (first : KeptTable) : Type 0 where
  pub snapshot : Option SnapshotOf
  pub fits : FitsIfAny snapshot
  pub records_are : records ≡ snapshot_records snapshot ++ scripts
  pub first_is : IsFirstOf observers snapshot first
  pub since_is : since ≡ since_in snapshot
  -- it is taken off wherever there is one
  pub taken_off : snapshot ≡ None → begins_as_snapshot scripts ≡ false

-- ---- what a file has

-- a file is a log of this origin, and its scripts make these changes
pub record HasChanges (origin : Origin) (changes : List Writes) (file : List ℕ) : Type 0 where
  pub fits : FitsIfAny origin.snapshot
  pub scripts : List (List ℕ)
  pub has : HasRecords (head_of origin) (snapshot_records origin.snapshot ++ scripts) file
  pub make : changes_of scripts ≡ Ok changes
  pub texts : AreTexts scripts

-- The log of this origin is at rest, all of it is on the disk, and its scripts make these changes.
pub record IsLogOf (origin : Origin) (changes : List Writes) (seen : List ℕ) (may_leave : List ℕ → Type 0) (end : ℕ) : Type 0 where
  pub fits : FitsIfAny origin.snapshot
  pub scripts : List (List ℕ)
  pub at_rest : IsAtRest seen may_leave end (header (head_of origin) ∷ (snapshot_records origin.snapshot ++ scripts))
  pub make : changes_of scripts ≡ Ok changes
  pub texts : AreTexts scripts

-- the file is a log of this limit of entries and this manifest, with these changes, and this is the table on which the first of them is made
pub record HasLog (limit : ℕ) (observers : List ObserverOf) (manifest file : List ℕ) : Type 0 where
  pub origin : Origin
  pub limit_is : origin.limit ≡ limit
  pub manifest_is : origin.manifest ≡ manifest
  pub first : KeptTable
  pub first_is : IsFirstOf observers origin.snapshot first
  pub changes : List Writes
  pub had : HasChanges origin changes file

-- the file has no changes: it is no log of this limit of entries and this manifest whose records are all read as scripts
abbrev pub HasNoChanges : ℕ → List ℕ → List ℕ → Type 0
HasNoChanges limit manifest file = (snapshot : Option SnapshotOf) (changes : List Writes) → HasChanges (origin_of limit manifest snapshot) changes file → ⊥

-- the file begins with records and a closed gate, so that it is opened (`shut_logs_open` of `pb_log`)
abbrev pub IsShutFile : List ℕ → Type 0
IsShutFile file = (rs : List (List ℕ)) × IsShut file rs
