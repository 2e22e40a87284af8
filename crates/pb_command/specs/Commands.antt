-- What a command leaves: its status, its output, the lines of its fault, and what the paths hold. `command` promises
-- it for all five, and `sequential_command` for those that wait for nothing.
use Rattle.std.specs.Prelude.{◌≡◌, ◌⊎◌, ℕ, List, [], ◌∷◌, None, Result, Ok, Err, All}
use Rattle.pb_texts.specs.declared.words.choice.Options.{Options}
use Rattle.pb_texts.specs.declared.words.choice.ReplayFiles.{ReplayFiles}
use Rattle.pb_threads.specs.Swaps.{Spare}
use Rattle.pb_asm.specs.Listing.{listing}
use Rattle.pb_base.specs.Taking.{Taking, TookNothing}
use Rattle.pb_driver.specs.declared.fault.RunFault.{RunFault}
use Rattle.pb_driver.specs.declared.run.Ran.{Ran}
use Rattle.pb_driver.specs.Runs.{RunsTexts}
use Rattle.pb_driver.specs.Replays.{ReplaysTexts}
use Rattle.pb_files.specs.declared.answer.Verdict.{Verdict}
use Rattle.pb_files.specs.declared.fault.FileFault.{FileFault}
use Rattle.pb_files.specs.Files.{PathBytes, Held, Filing, KeepsFiles, IsKnownAs}
use Rattle.pb_files.specs.PathFaults.{IsFileFault}
use Rattle.pb_files.specs.Programs.{AsmLeaves, AnswerLeaves, TellsProgram, Checks}
use Rattle.pb_command.specs.declared.fault.Fault.{Fault}
use Rattle.pb_command.specs.FaultLines.{Tells}

-- ---- `run`

-- no seat was refused, and of each change a try committed
abbrev pub IsAllDone : Ran → Type 0
IsAllDone ran = All (λ r. r ≡ None) ran.refusals.items × (ran.unfinished.items ≡ [])

-- on a table of so many tablets so many workers ran texts that the two paths hold so, beside the swaps of these spares, from the clock 0
pub record RanFrom (places : ℕ) (before : Held) (manifest script : PathBytes) (workers : ℕ) (spares : List Spare) (out : Taking) (result : Result Ran RunFault) : Type 0 where
  pub manifest_text : List ℕ
  pub script_text : List ℕ
  pub manifest_held : IsKnownAs (before manifest) (Ok manifest_text)
  pub script_held : IsKnownAs (before script) (Ok script_text)
  pub ran : RunsTexts places manifest_text script_text workers 0 spares out result

-- the texts ran, and nothing was left undone
pub record RanWhole (places : ℕ) (before : Held) (manifest script : PathBytes) (workers : ℕ) (spares : List Spare) (out : Taking) : Type 0 where
  pub left : Ran
  pub all_done : IsAllDone left
  pub ran : RanFrom places before manifest script workers spares out (Ok left)

-- The texts ran, and this was left undone; or they ran to this fault; or there was none to run, and nothing was written.
abbrev pub RunFails : ℕ → Held → PathBytes → PathBytes → ℕ → List Spare → Taking → Fault → Type 0
RunFails places before manifest script workers spares out (Fault.Undone left) = RanFrom places before manifest script workers spares out (Ok left) × (IsAllDone left → ⊥)
RunFails places before manifest script workers spares out (Fault.Run f) = RanFrom places before manifest script workers spares out (Err f)
RunFails places before manifest script workers spares out (Fault.File f) = TookNothing out × IsFileFault before (manifest ∷ script ∷ []) f

-- what `run` leaves: the whole report where all is done, or a fault; it refuses nothing that it is given
abbrev pub RunLeaves : ℕ → Held → PathBytes → PathBytes → ℕ → List Spare → Taking → Result Verdict Fault → Type 0
RunLeaves places before manifest script workers spares out (Ok Verdict.Accepted) = RanWhole places before manifest script workers spares out
RunLeaves places before manifest script workers spares out (Ok Verdict.Refused) = ⊥
RunLeaves places before manifest script workers spares out (Err f) = RunFails places before manifest script workers spares out f

-- ---- `replay`

-- how the replay of a manifest, a script and a schedule ended, from a clock on, and what the sink took
abbrev pub Replaying : Type 1
Replaying = ℕ → List ℕ → List ℕ → List ℕ → Taking → Result (Unit {0}) RunFault → Type 0

-- texts that the three paths hold were replayed so, from the clock that was asked for
pub record ReplayedFrom (replays : Replaying) (before : Held) (files : ReplayFiles) (out : Taking) (result : Result (Unit {0}) RunFault) : Type 0 where
  pub manifest : List ℕ
  pub script : List ℕ
  pub schedule : List ℕ
  pub manifest_held : IsKnownAs (before files.manifest.now) (Ok manifest)
  pub script_held : IsKnownAs (before files.script.now) (Ok script)
  pub schedule_held : IsKnownAs (before files.schedule.now) (Ok schedule)
  pub replayed : replays files.clock.0 manifest script schedule out result

-- one of the files is at fault, and nothing was written; or the texts were replayed to this fault
abbrev pub ReplayFails : Replaying → Held → ReplayFiles → Taking → Fault → Type 0
ReplayFails replays before files out (Fault.File f) = IsFileFault before (files.manifest.now ∷ files.script.now ∷ files.schedule.now ∷ []) f × TookNothing out
ReplayFails replays before files out (Fault.Run f) = ReplayedFrom replays before files out (Err f)
ReplayFails replays before files out (Fault.Undone left) = ⊥

-- what a replay leaves: the whole of what it writes, or a fault; it refuses nothing that it is given
abbrev pub ReplayLeaves : Replaying → Held → ReplayFiles → Taking → Result Verdict Fault → Type 0
ReplayLeaves replays before files out (Ok Verdict.Accepted) = ReplayedFrom replays before files out (Ok tt)
ReplayLeaves replays before files out (Ok Verdict.Refused) = ⊥
ReplayLeaves replays before files out (Err f) = ReplayFails replays before files out f

-- ---- any command

-- the outcome of what is done with files alone, as a command's
abbrev pub files_outcome : Result Verdict FileFault → Result Verdict Fault
files_outcome (Ok verdict) = Ok verdict
files_outcome (Err f) = Err (Fault.File f)

-- this is the outcome of what is done with files alone, which leaves this
abbrev pub FilesLeave : (Result Verdict FileFault → Type 0) → Result Verdict Fault → Type 0
FilesLeave leaves outcome = (left : Result Verdict FileFault) × (outcome ≡ files_outcome left) × leaves left

-- it is done in one thread, and waits for nothing
abbrev pub IsSequential : Options → Type 0
IsSequential (Options.Run manifest script workers swaps) = ⊥
IsSequential other = Unit {0}

-- What is left where a command ended so, with a table of so many tablets, and these spares for `run`: only `asm` writes to a path, and it writes no output.
abbrev pub LeavesBehind : Options → ℕ → List Spare → Filing → Taking → Result Verdict Fault → Type 0
LeavesBehind (Options.Run manifest script workers swaps) places spares files out outcome =
    KeepsFiles files × RunLeaves places files.before manifest.now script.now workers spares out outcome
LeavesBehind (Options.Replay replay) places spares files out outcome = KeepsFiles files × ReplayLeaves (ReplaysTexts places) files.before replay out outcome
LeavesBehind (Options.Asm input output profile) places spares files out outcome =
    TookNothing out × FilesLeave (AsmLeaves profile files input.now output.now) outcome
LeavesBehind (Options.Dis file profile) places spares files out outcome =
    KeepsFiles files × FilesLeave (AnswerLeaves (TellsProgram listing profile) (files.before file.now) file.now out) outcome
LeavesBehind (Options.Check program) places spares files out outcome =
    KeepsFiles files × FilesLeave (AnswerLeaves (Checks program.profile program.version) (files.before program.file.now) program.file.now out) outcome

-- the status of an outcome, and what standard error took
abbrev pub IsToldAs : Result Verdict Fault → Taking → ℕ → Type 0
IsToldAs (Ok Verdict.Accepted) err status = (status ≡ 0) × TookNothing err
IsToldAs (Ok Verdict.Refused) err status = (status ≡ 1) × TookNothing err
IsToldAs (Err f) err status = (status ≡ 1) × Tells f err

-- how a command ended, as its status and the lines of its fault show it
pub record Commands (options : Options) (places : ℕ) (spares : List Spare) (files : Filing) (out err : Taking) (status : ℕ) : Type 0 where
  pub outcome : Result Verdict Fault
  pub leaves : LeavesBehind options places spares files out outcome
  pub tells : IsToldAs outcome err status
