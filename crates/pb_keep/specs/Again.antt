-- The changes of a log as they are made again: how far that went where memory was refused.
use Rattle.std.specs.Prelude.{◌≡◌, ℕ, ◌+◌, List, ◌++◌, length, Option, Ok}
use Rattle.pb_keeper.specs.BrokenOff.{IsOfChange}
use Rattle.pb_keeper.specs.declared.passes.TheConstants.{MAX_RUNS}
use Rattle.pb_keep.specs.Words.{Keeps, KeptTable, SaidLeads, StateOf, Writes, last_timestamp, script_of}
use Rattle.pb_keep.specs.declared.fault.KeepFault.{KeepFault}
use Rattle.pb_keep.specs.First.{first_changes, room_after}
use Rattle.pb_keep.specs.Kept.{changes_of, reported_count, AreTexts, HaveNoScript}

-- these changes are kept after any that the table keeps, where it has this limit of entries
abbrev pub KeepsMore : ℕ → KeptTable → List Writes → KeptTable → Type 0
KeepsMore limit old more new = (first : KeptTable) (changes : List Writes) → Keeps limit first changes old → Keeps limit first (changes ++ more) new

-- a change was begun on a table, and left; so no more than a part of one stands there
abbrev pub IsBrokenOff : StateOf → StateOf → Type 0
IsBrokenOff reached new = SaidLeads (IsOfChange MAX_RUNS) reached new

-- the first changes of a record were made, as many as may follow those before, and so many more are counted
pub record IsRecordMade (limit : ℕ) (most : Option ℕ) (bytes : List ℕ) (old new : KeptTable) (was made : ℕ) : Type 0 where
  pub script : List Writes
  pub reads : script_of bytes ≡ Ok script
  pub keeps : KeepsMore limit old (first_changes (room_after most was) script) new
  pub count : made ≡ reported_count (was + length (first_changes (room_after most was) script))

-- the first changes of a record were made, by which a table was reached, and so many more are counted; on the way to this state no other
-- change was made whole
pub record IsRecordLeft (limit : ℕ) (bytes : List ℕ) (old : KeptTable) (new : StateOf) (was made : ℕ) : Type 0 where
  pub done : List Writes
  pub begins : (script : List Writes) → script_of bytes ≡ Ok script → (rest : List Writes) × (script ≡ done ++ rest)
  pub reached : KeptTable
  pub keeps : KeepsMore limit old done reached
  pub left : IsBrokenOff reached.state new
  pub count : made ≡ reported_count (was + length done)

-- the first of these changes were made, as many as may be, and counted
pub record AreFirstMade (limit : ℕ) (most : Option ℕ) (changes : List Writes) (old new : KeptTable) (made : ℕ) : Type 0 where
  pub keeps : KeepsMore limit old (first_changes most changes) new
  pub count : made ≡ reported_count (length (first_changes most changes))

-- some of these changes were made, the first ones, by which a table was reached, and counted; the next one was begun at most
pub record AreSomeMade (limit : ℕ) (changes : List Writes) (old : KeptTable) (new : StateOf) (made : ℕ) : Type 0 where
  pub done : List Writes
  pub rest : List Writes
  pub parts : changes ≡ done ++ rest
  pub reached : KeptTable
  pub keeps : KeepsMore limit old done reached
  pub left : IsBrokenOff reached.state new
  pub count : made ≡ reported_count (length done)

-- So many changes of these records were made of so many: the first ones, by which a table was reached. The next one was begun at most.
pub record IsMadeInPart (limit : ℕ) (records : List (List ℕ)) (old : KeptTable) (new : StateOf) (made all : ℕ) : Type 0 where
  pub changes : List Writes
  pub reads : changes_of records ≡ Ok changes
  pub texts : AreTexts records
  pub all_is : all ≡ reported_count (length changes)
  pub done : List Writes
  pub rest : List Writes
  pub parts : changes ≡ done ++ rest
  pub reached : KeptTable
  pub keeps : KeepsMore limit old done reached
  pub left : IsBrokenOff reached.state new
  pub made_is : made ≡ reported_count (length done)

-- want of memory, with how many changes were made of how many
abbrev pub in_part : KeepFault → ℕ → ℕ → KeepFault
in_part (KeepFault.NoMemory refused) made all = KeepFault.MadeInPart refused made all
in_part e made all = e

-- these records are read as changes, and the last timestamp is given out, if the table keeps changes
pub record IsOutOfTime (limit : ℕ) (records : List (List ℕ)) (old : KeptTable) (new : StateOf) : Type 0 where
  pub changes : List Writes
  pub reads : changes_of records ≡ Ok changes
  pub texts : AreTexts records
  pub out : (first : KeptTable) (before : List Writes) → Keeps limit first before old → new.clock ≡ last_timestamp

-- why the changes of records weren't all made
abbrev pub WhyNotAllMade : ℕ → List (List ℕ) → KeptTable → StateOf → KeepFault → Type 0
WhyNotAllMade limit records old new (KeepFault.NoMemory e) = Unit {0}
WhyNotAllMade limit records old new KeepFault.Record = HaveNoScript records
WhyNotAllMade limit records old new KeepFault.NoTimestamp = IsOutOfTime limit records old new
WhyNotAllMade limit records old new (KeepFault.MadeInPart refused made all) = IsMadeInPart limit records old new made all
WhyNotAllMade limit records old new _ = ⊥
