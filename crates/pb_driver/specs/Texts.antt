-- What the texts of a run and of a replay are read as, and which fault is reported for them. Each text's reading is defined
-- where it is read; here stands that they are read in turn, and only so far as they are read. Both drivers cite it,
-- and the story program.
use Rattle.std.specs.Prelude.{◌≡◌, ℕ, List, [], Result, Ok, Err}
use Rattle.pb_driver.specs.Words.{MAX_ENTRIES, Writes, refused_growth, IsFaultOf, ObserverOf, opening, SharedOf, ReadsManifest, script_of, Event, schedule_of, ReportFault}
use Rattle.pb_driver.specs.declared.fault.RunFault.{RunFault}

-- the fault of a run or a replay whose report ended so
abbrev pub of_report : ReportFault → RunFault
of_report ReportFault.Output = RunFault.Output
of_report (ReportFault.NoMemory refused) = RunFault.NoMemory refused

-- the fault of a run or a replay for which a growth was refused
abbrev pub memory_fault : RunFault
memory_fault = RunFault.NoMemory refused_growth

-- ---- each text

-- the manifest is refused with this fault, or memory was refused
abbrev pub IsBadManifest : List ℕ → RunFault → Type 0
IsBadManifest manifest (RunFault.Manifest f) = ReadsManifest manifest (Err f)
IsBadManifest manifest (RunFault.NoMemory refused) = Unit {0}
IsBadManifest manifest _ = ⊥

-- the script is refused with this fault, or memory was refused
abbrev pub IsBadScript : List ℕ → RunFault → Type 0
IsBadScript script (RunFault.Script f) = IsFaultOf (script_of script) f
IsBadScript script (RunFault.NoMemory refused) = Unit {0}
IsBadScript script _ = ⊥

-- the schedule is refused with this fault, for these observers, or memory was refused
abbrev pub IsBadSchedule : List ObserverOf → List ℕ → RunFault → Type 0
IsBadSchedule observers schedule (RunFault.Schedule f) = IsFaultOf (schedule_of observers schedule) f
IsBadSchedule observers schedule (RunFault.NoMemory refused) = Unit {0}
IsBadSchedule observers schedule _ = ⊥

-- ---- the texts of a run

-- a manifest is read as these observers, and a script as these changes
pub record IsRunRead (manifest script : List ℕ) (observers : List ObserverOf) (batches : List Writes) : Type 0 where
  pub manifest_read : ReadsManifest manifest (Ok observers)
  pub script_read : script_of script ≡ Ok batches

-- the fault is that of the first text that isn't read
abbrev pub IsRunUnread : List ℕ → List ℕ → RunFault → Type 0
IsRunUnread manifest script (RunFault.Manifest f) = ReadsManifest manifest (Err f)
IsRunUnread manifest script (RunFault.Script f) = (observers : List ObserverOf) × ReadsManifest manifest (Ok observers) × IsFaultOf (script_of script) f
IsRunUnread manifest script (RunFault.NoMemory refused) = Unit {0}
IsRunUnread manifest script _ = ⊥

-- ---- the texts of a replay

-- and a schedule as these events, whose names are those of the manifest's observers
pub record IsReplayRead (manifest script schedule : List ℕ) (observers : List ObserverOf) (batches : List Writes) (events : List Event) : Type 0 where
  pub run_read : IsRunRead manifest script observers batches
  pub schedule_read : schedule_of observers schedule ≡ Ok events

-- the fault is that of the first text that isn't read
abbrev pub IsReplayUnread : List ℕ → List ℕ → List ℕ → RunFault → Type 0
IsReplayUnread manifest script schedule (RunFault.Schedule f) = (observers : List ObserverOf) × (batches : List Writes) × IsRunRead manifest script observers batches × IsFaultOf (schedule_of observers schedule) f
IsReplayUnread manifest script schedule f = IsRunUnread manifest script f

-- ---- the table

-- a table of so many tablets with these observers, so many seats and room for the most entries, as opened
abbrev pub table_opened : ℕ → List ObserverOf → ℕ → ℕ → SharedOf
table_opened places observers seats last = record { journal = []; state = opening observers seats last; opened = last; limit = MAX_ENTRIES; places = places }
