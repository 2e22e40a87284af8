-- What holds of all logs of changes.
use Rattle.std.specs.Prelude.{◌≡◌, ◌⊎◌, ℕ, ◌<◌, List, [], ◌++◌, Option, None, Some}
use Rattle.pb_log.specs.declared.fault.LogFault.{LogFault}
use Rattle.pb_log.specs.Causes.{IsNoLog}
use Rattle.pb_log.specs.Records.{IsReadable}
use Rattle.pb_keep.specs.Words.{IsFirstTable, IsSnapshotTaken, KeepsFrom, KeptTable, ObserverOf, SnapshotOf, StateOf, Writes, last_timestamp, snapshot_bytes}
use Rattle.pb_keep.specs.declared.fault.KeepFault.{KeepFault}
use Rattle.pb_keep.specs.Causes.{WhyNotMadeAgain}
use Rattle.pb_keep.specs.Conversations.{Beginning, LeavesFirst}
use Rattle.pb_keep.specs.Kept.{head, head_of, origin_of, HasChanges, IsFirstOf, IsSnapshotFor, Origin}
use Rattle.pb_keep.specs.Waits.{changes_in}

-- a file of a limit and a manifest has one origin and the changes of one list, so that a log that is opened again makes those that a crash left
abbrev pub FilesHaveOneList : Type 0
FilesHaveOneList =
    (origin other : Origin) (changes others : List Writes) (file : List ℕ) → head_of origin ≡ head_of other → HasChanges origin changes file → HasChanges other others file
    → (origin.snapshot ≡ other.snapshot) × (changes ≡ others)

-- ---- crash and restart

-- The changes that are found are those of lines that a crash left: after the snapshot of before, those of the lines that were answered, or
-- also those of the lines that waited.
pub record AreOfLines (b : Beginning) (lines : List (List ℕ)) (written : Option (List ℕ)) (file : List ℕ) (l : LeavesFirst b lines written file) (snapshot : Option SnapshotOf) (changes : List Writes) : Type 0 where
  pub snapshot_is : snapshot ≡ b.origin.snapshot
  pub changes_are : (changes ≡ b.changes ++ l.made) ⊎ (changes ≡ (b.changes ++ l.made) ++ changes_in l.items)

-- So what is opened after a crash, with the limit and the manifest of before, is the table that these lines lead to: `IsOpenedLog` has
-- changes of the file, and makes them.
abbrev pub LinesSurvive : Type 0
LinesSurvive =
    (b : Beginning) (lines : List (List ℕ)) (written : Option (List ℕ)) (file : List ℕ) (l : LeavesFirst b lines written file) (snapshot : Option SnapshotOf) (changes : List Writes)
    → HasChanges (origin_of b.origin.limit b.origin.manifest snapshot) changes file → AreOfLines b lines written file l snapshot changes

-- ---- compaction and restart

-- What is opened with a log that a compaction began, as `BeginsAnew` has it, goes on as the table that was compacted, and has no change of
-- its own: it is the first table of the next generation.
abbrev pub CompactionsGoOn : Type 0
CompactionsGoOn =
    (limit next : ℕ) (past changes own : List Writes) (first old new : KeptTable) (manifest file : List ℕ) (s : SnapshotOf) (snapshot : Option SnapshotOf) → IsFirstTable past first → KeepsFrom limit first changes old
    → old.state.clock < last_timestamp → IsSnapshotTaken old s → HasChanges (origin_of next manifest (Some s)) [] file → HasChanges (origin_of next manifest snapshot) own file → IsFirstOf old.state.observers snapshot new
    → IsFirstTable (past ++ changes) new × (own ≡ [])

-- ---- which logs are opened

-- a table with these observers can begin with the snapshot, if there is one
abbrev pub SuitsIfAny : List ObserverOf → Option SnapshotOf → Type 0
SuitsIfAny observers None = Unit {0}
SuitsIfAny observers (Some s) = IsSnapshotFor observers (snapshot_bytes s) s

-- The file is a log of this limit of entries and this manifest, and has changes. If it begins with a snapshot, this is one for these
-- observers. It ends as puts leave it, or is new.
pub record IsGoodLog (limit : ℕ) (observers : List ObserverOf) (manifest file : List ℕ) : Type 0 where
  pub snapshot : Option SnapshotOf
  pub suits : SuitsIfAny observers snapshot
  pub changes : List Writes
  pub has : HasChanges (origin_of limit manifest snapshot) changes file
  pub records : List (List ℕ)
  pub readable : IsReadable file records
  pub begun : IsNoLog (head limit manifest) file → ⊥

-- memory was refused, or a call of the disk failed
abbrev pub IsOfCalls : LogFault → Type 0
IsOfCalls (LogFault.NoMemory e) = Unit {0}
IsOfCalls (LogFault.Disk e) = Unit {0}
IsOfCalls _ = ⊥

-- the same, or the last timestamp is given out
abbrev pub IsOfMachine : KeepFault → Type 0
IsOfMachine (KeepFault.NoMemory e) = Unit {0}
IsOfMachine (KeepFault.MadeInPart e made all) = Unit {0}
IsOfMachine (KeepFault.Log e) = IsOfCalls e
IsOfMachine KeepFault.NoTimestamp = Unit {0}
IsOfMachine _ = ⊥

-- a good log is refused for nothing else
abbrev pub GoodLogsOpen : Type 0
GoodLogsOpen =
    (limit : ℕ) (observers : List ObserverOf) (manifest : List ℕ) (before now : ℕ) (file : List ℕ) (new : StateOf) (e : KeepFault) → IsGoodLog limit observers manifest file
    → WhyNotMadeAgain limit observers manifest before now file new e → IsOfMachine e
