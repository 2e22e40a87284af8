-- Why a table is kept no longer. Of memory nothing is known: it may be refused in any call.
use Rattle.std.specs.Prelude.{◌≡◌, ℕ, Bool, true, List, ◌++◌, length}
use Rattle.pb_keeper.specs.BrokenOff.{IsOfChange}
use Rattle.pb_keeper.specs.declared.passes.TheConstants.{MAX_RUNS}
use Rattle.pb_keep.specs.Words.{HasRecords, IsFirstTable, IsOfTheFile, KeepsFrom, KeptTable, ObserverOf, Writes, WhyNotOpened, WhyNotPut, SaidLeads, StateOf, last_timestamp}
use Rattle.pb_keep.specs.declared.fault.KeepFault.{KeepFault}
use Rattle.pb_keep.specs.Conversations.{KeeperView}
use Rattle.pb_keep.specs.Kept.{head, HasChanges, HasLog, HasNoChanges, HaveNoScript, IsFirstOf, IsNoScript, LacksSnapshot, Origin, reported_count}

-- a put into the log failed, by how many calls of its disk had failed before and have failed now, and where the log ends
abbrev pub IsOfPut : ℕ → ℕ → ℕ → KeepFault → Type 0
IsOfPut before now end (KeepFault.Log e) = WhyNotPut before now end e
IsOfPut before now end _ = ⊥

-- an answer was not made, or a write of it failed
abbrev pub IsOfAnswer : Bool → KeepFault → Type 0
IsOfAnswer failed (KeepFault.NoMemory e) = Unit {0}
IsOfAnswer failed KeepFault.Output = failed ≡ true
IsOfAnswer failed _ = ⊥

-- the first record is of no snapshot that the table can begin with, or memory was refused
abbrev pub IsOfFirst : List ObserverOf → List (List ℕ) → KeepFault → Type 0
IsOfFirst observers records (KeepFault.NoMemory e) = Unit {0}
IsOfFirst observers records KeepFault.Snapshot = LacksSnapshot observers records
IsOfFirst observers records _ = ⊥

-- a record was read alone: it is no script, or memory was refused
abbrev pub IsOfScript : List ℕ → KeepFault → Type 0
IsOfScript r (KeepFault.NoMemory e) = Unit {0}
IsOfScript r KeepFault.Record = IsNoScript r
IsOfScript r _ = ⊥

-- the same of records: one of them is no script
abbrev pub IsOfReading : List (List ℕ) → KeepFault → Type 0
IsOfReading records (KeepFault.NoMemory e) = Unit {0}
IsOfReading records KeepFault.Record = HaveNoScript records
IsOfReading records _ = ⊥

-- or no timestamp was left for a change of theirs
abbrev pub IsOfAnew : List (List ℕ) → KeepFault → Type 0
IsOfAnew records (KeepFault.NoMemory e) = Unit {0}
IsOfAnew records KeepFault.Record = HaveNoScript records
IsOfAnew records KeepFault.NoTimestamp = Unit {0}
IsOfAnew records _ = ⊥

-- what the file of the log has is the cause
abbrev pub IsOfLogFile : KeepFault → Type 0
IsOfLogFile (KeepFault.Log e) = IsOfTheFile e
IsOfLogFile _ = ⊥

-- why what waits isn't kept: the disk failed or the log is full, memory was refused, or a write failed; there are timestamps for all that waits
abbrev pub WhyNotKept : ℕ → ℕ → Bool → KeeperView → KeepFault → Type 0
WhyNotKept before now failed k (KeepFault.Log e) = WhyNotPut before now k.end e
WhyNotKept before now failed k (KeepFault.NoMemory e) = Unit {0}
WhyNotKept before now failed k KeepFault.NoTimestamp = ⊥
WhyNotKept before now failed k KeepFault.Output = failed ≡ true
WhyNotKept before now failed k (KeepFault.MadeInPart e made all) = ⊥
WhyNotKept before now failed k KeepFault.Record = ⊥
WhyNotKept before now failed k KeepFault.Snapshot = ⊥
WhyNotKept before now failed k KeepFault.Input = ⊥

-- the same where lines are read: or else a read failed
abbrev pub WhyNotServed : ℕ → ℕ → Bool → Bool → KeeperView → KeepFault → Type 0
WhyNotServed before now unread failed k KeepFault.Input = unread ≡ true
WhyNotServed before now unread failed k e = WhyNotKept before now failed k e

-- the file is a log whose first record has this, and the record after it is of no snapshot that the table can begin with
abbrev pub LacksSnapshotIn : List ObserverOf → List ℕ → List ℕ → Type 0
LacksSnapshotIn observers first file = (records : List (List ℕ)) × HasRecords first records file × LacksSnapshot observers records

-- The file is a log of this limit of entries and this manifest, and so many of its changes were made of so many: the first ones, on the
-- table with which it begins. On the way to this state the next one was begun at most.
pub record IsOpenedInPart (limit : ℕ) (observers : List ObserverOf) (manifest file : List ℕ) (new : StateOf) (made all : ℕ) : Type 0 where
  pub origin : Origin
  pub limit_is : origin.limit ≡ limit
  pub manifest_is : origin.manifest ≡ manifest
  pub first : KeptTable
  pub first_is : IsFirstOf observers origin.snapshot first
  pub changes : List Writes
  pub had : HasChanges origin changes file
  pub all_is : all ≡ reported_count (length changes)
  pub done : List Writes
  pub rest : List Writes
  pub parts : changes ≡ done ++ rest
  pub reached : KeptTable
  pub keeps : (past : List Writes) → IsFirstTable past first → KeepsFrom limit first done reached
  pub left : SaidLeads (IsOfChange MAX_RUNS) reached.state new
  pub made_is : made ≡ reported_count (length done)

-- The file is a log of this limit of entries and this manifest, and the last timestamp is given out, if its table is one with which a
-- generation begins.
pub record IsOpenedTooLate (limit : ℕ) (observers : List ObserverOf) (manifest file : List ℕ) (new : StateOf) : Type 0 where
  pub found : HasLog limit observers manifest file
  pub out : (past : List Writes) → IsFirstTable past found.first → new.clock ≡ last_timestamp

-- why a log of this limit and this manifest isn't opened, where this is the file, or its changes aren't made again, on the way to this state
abbrev pub WhyNotMadeAgain : ℕ → List ObserverOf → List ℕ → ℕ → ℕ → List ℕ → StateOf → KeepFault → Type 0
WhyNotMadeAgain limit observers manifest before now file new (KeepFault.Log e) = WhyNotOpened (head limit manifest) before now file e
WhyNotMadeAgain limit observers manifest before now file new (KeepFault.NoMemory e) = Unit {0}
WhyNotMadeAgain limit observers manifest before now file new KeepFault.Record = HasNoChanges limit manifest file
WhyNotMadeAgain limit observers manifest before now file new KeepFault.Snapshot = LacksSnapshotIn observers (head limit manifest) file
WhyNotMadeAgain limit observers manifest before now file new KeepFault.NoTimestamp = IsOpenedTooLate limit observers manifest file new
WhyNotMadeAgain limit observers manifest before now file new (KeepFault.MadeInPart e made all) = IsOpenedInPart limit observers manifest file new made all
WhyNotMadeAgain limit observers manifest before now file new _ = ⊥
