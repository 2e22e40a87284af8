-- What is left where lines that wait can't be kept.
use Rattle.std.specs.Prelude.{◌≡◌, ◌⊎◌, ℕ, ◌+◌, ◌*◌, ◌<◌, List, [], ◌++◌, length, Option}
use Rattle.pb_state.specs.declared.carry_fault.CarryFault.{CarryFault}
use Rattle.pb_keeper.specs.declared.passes.TheConstants.{MAX_RUNS}
use Rattle.pb_keep.specs.Words.{AppendsPart, KeptTable, StateOf, Stopped, Writes, last_timestamp}
use Rattle.pb_keep.specs.declared.fault.KeepFault.{KeepFault}
use Rattle.pb_keep.specs.declared.source.InputFault.{InputFault}
use Rattle.pb_keep.specs.declared.waiting.Waits.{Waits}
use Rattle.pb_keep.specs.Kept.{HasChanges, Origin}
use Rattle.pb_keep.specs.Waits.{changes_in, AreSomeAnswers}

-- the log failed
abbrev pub IsOfLog : KeepFault → Type 0
IsOfLog (KeepFault.Log e) = Unit {0}
IsOfLog _ = ⊥

-- the fault of a change that was stopped
abbrev pub fault_by : Stopped → KeepFault
fault_by (Stopped.NoMemory refused) = KeepFault.NoMemory refused
fault_by (Stopped.Refused why) = KeepFault.NoTimestamp
fault_by Stopped.Conflict = KeepFault.NoTimestamp

-- the fault of versions that aren't carried over
abbrev pub fault_of_carried : CarryFault → KeepFault
fault_of_carried (CarryFault.NoMemory refused) = KeepFault.NoMemory refused
fault_of_carried _ = KeepFault.Snapshot

-- the fault of a line that isn't read
abbrev pub fault_of_line : InputFault → KeepFault
fault_of_line (InputFault.NoMemory refused) = KeepFault.NoMemory refused
fault_of_line InputFault.Reader = KeepFault.Input

-- memory was refused, and nothing else
abbrev pub IsRefusedMemory : KeepFault → Type 0
IsRefusedMemory (KeepFault.NoMemory e) = Unit {0}
IsRefusedMemory _ = ⊥

-- so many timestamps a change takes at most, with its runs
abbrev pub most_timestamps : ℕ
most_timestamps = 2 + 2 * MAX_RUNS

-- where it names timestamps, the table has given out the last one
abbrev pub IsRightOf : StateOf → KeepFault → Type 0
IsRightOf state KeepFault.NoTimestamp = state.clock ≡ last_timestamp
IsRightOf state _ = Unit {0}

-- there are timestamps for all changes that wait, if there are any
abbrev pub AreInTime : List Waits → StateOf → Type 0
AreInTime items state = (changes_in items ≡ [] → ⊥) → state.clock + length (changes_in items) * most_timestamps < last_timestamp

-- no timestamp was left for a change, or memory was refused for it or its answer
abbrev pub IsOfMaking : KeepFault → Type 0
IsOfMaking (KeepFault.NoMemory e) = Unit {0}
IsOfMaking KeepFault.NoTimestamp = Unit {0}
IsOfMaking _ = ⊥

-- where the log failed: nothing is made or written, and a crash leaves the changes of before, or with those that waited
pub record IsLeftInLog (origin : Origin) (changes : List Writes) (items : List Waits) (old new : KeptTable) (was_written written : Option (List ℕ)) (may_leave : List ℕ → Type 0) : Type 0 where
  pub table : new ≡ old
  pub unwritten : written ≡ was_written
  pub crash : (c : List ℕ) → may_leave c → HasChanges origin changes c ⊎ HasChanges origin (changes ++ changes_in items) c

-- where another fault came later: a crash leaves all changes that waited, and a beginning of some answers was written
pub record IsLeftMade (limit : ℕ) (origin : Origin) (changes : List Writes) (items : List Waits) (old : KeptTable) (was_written written : Option (List ℕ)) (may_leave : List ℕ → Type 0) : Type 0 where
  pub crash : (c : List ℕ) → may_leave c → HasChanges origin (changes ++ changes_in items) c
  pub text : List ℕ
  pub answers : AreSomeAnswers limit items old [] text
  pub is_written : AppendsPart was_written written text

-- what a fault leaves of a table of this limit of entries
abbrev pub IsLeftBy : ℕ → Origin → List Writes → List Waits → KeptTable → KeptTable → Option (List ℕ) → Option (List ℕ) → (List ℕ → Type 0) → KeepFault → Type 0
IsLeftBy limit origin changes items old new was_written written may_leave (KeepFault.Log e) = IsLeftInLog origin changes items old new was_written written may_leave
IsLeftBy limit origin changes items old new was_written written may_leave _ = IsLeftMade limit origin changes items old was_written written may_leave
