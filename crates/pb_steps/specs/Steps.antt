-- The steps of the shared table (OSDI 2010, sections 2.2 to 2.4): when each is refused, what it may answer, and the state
-- that it leaves.
use Rattle.std.specs.Prelude.{◌≡◌, ℕ, Option, Some, None}
use Rattle.pb_steps.specs.Words.{Reason}
use Rattle.pb_steps.specs.declared.step.Step.{Step}
use Rattle.pb_steps.specs.declared.step.Answer.{Answer}
use Rattle.pb_steps.specs.State.{StateOf}
use Rattle.pb_steps.specs.Reasons.{Reasons, first_reason, own_reasons, seat_reasons}
use Rattle.pb_steps.specs.Begin.{begin_reasons, Begins}
use Rattle.pb_steps.specs.Read.{read_reasons, read_at_reasons, ReadsLocked, ReadsFound, ReadsAbsent}
use Rattle.pb_steps.specs.Declare.{declare_reasons, Declares}
use Rattle.pb_steps.specs.Prewrite.{prewrite_reasons, Prewrites, Conflicts}
use Rattle.pb_steps.specs.Stamp.{stamp_reasons, Stamps}
use Rattle.pb_steps.specs.CommitPrimary.{commit_reasons, CommitsPrimary, Loses}
use Rattle.pb_steps.specs.CommitSecondary.{secondary_reasons, CommitsSecondary}
use Rattle.pb_steps.specs.Settle.{MeetsNoLock, MeetsSecondary, Settles}
use Rattle.pb_steps.specs.Clear.{ClearWaits, ClearsCommitted, ClearsBack}
use Rattle.pb_steps.specs.NextMark.{FindsMark, FindsNone}
use Rattle.pb_steps.specs.Sweep.{SweepsNothing, StaysMarked, Sweeps}

-- why a step may be refused, by rising numbers, each with whether it applies
abbrev pub step_reasons : StateOf → ℕ → Step → Reasons
step_reasons s seat (Step.Begin work) = begin_reasons s seat work
step_reasons s seat (Step.Read start x) = own_reasons s seat start.0 read_reasons
step_reasons s seat (Step.ReadAt start x t) = own_reasons s seat start.0 (read_at_reasons start.0 t.0)
step_reasons s seat (Step.Declare start what) = own_reasons s seat start.0 (declare_reasons s.observers start.0 what)
step_reasons s seat (Step.Prewrite start x) = own_reasons s seat start.0 (prewrite_reasons x)
step_reasons s seat (Step.Stamp start) = stamp_reasons s seat start.0
step_reasons s seat (Step.CommitPrimary start) = own_reasons s seat start.0 commit_reasons
step_reasons s seat (Step.CommitSecondary start x) = own_reasons s seat start.0 (secondary_reasons x)
step_reasons s seat (Step.Settle x) = seat_reasons s seat
step_reasons s seat (Step.Clear x) = seat_reasons s seat
step_reasons s seat (Step.NextMark after) = seat_reasons s seat
step_reasons s seat (Step.Sweep x) = seat_reasons s seat

-- why a step is refused, if it is: the reason with the lowest number
abbrev pub step_reason : StateOf → ℕ → Step → Option Reason
step_reason s seat step = first_reason (step_reasons s seat step)

-- what a step that isn't refused answers and leaves
abbrev pub StepCase : StateOf → ℕ → Step → Answer → StateOf → Type 0
StepCase old seat (Step.Begin work) (Answer.At s) new = Begins old seat work s.0 new
StepCase old seat (Step.Read s x) (Answer.Locked start primary) new = ReadsLocked old seat s.0 x None (start.0, primary) new
StepCase old seat (Step.Read s x) (Answer.Found start commit content) new = ReadsFound old seat s.0 x None (record { start = start; commit = commit; content = content }) new
StepCase old seat (Step.Read s x) Answer.Absent new = ReadsAbsent old seat s.0 x None new
StepCase old seat (Step.ReadAt s x t) (Answer.Locked start primary) new = ReadsLocked old seat s.0 x (Some t) (start.0, primary) new
StepCase old seat (Step.ReadAt s x t) (Answer.Found start commit content) new = ReadsFound old seat s.0 x (Some t) (record { start = start; commit = commit; content = content }) new
StepCase old seat (Step.ReadAt s x t) Answer.Absent new = ReadsAbsent old seat s.0 x (Some t) new
StepCase old seat (Step.Declare s what) Answer.Done new = Declares old seat s.0 what new
StepCase old seat (Step.Prewrite s x) Answer.Done new = Prewrites old seat s.0 x new
StepCase old seat (Step.Prewrite s x) Answer.Conflict new = Conflicts old seat s.0 x new
StepCase old seat (Step.Stamp s) (Answer.At c) new = Stamps old seat s.0 c.0 new
StepCase old seat (Step.CommitPrimary s) Answer.Committed new = CommitsPrimary old seat s.0 new
StepCase old seat (Step.CommitPrimary s) Answer.Lost new = Loses old seat s.0 new
StepCase old seat (Step.CommitSecondary s x) Answer.Done new = CommitsSecondary old seat s.0 x new
StepCase old seat (Step.Settle x) Answer.Absent new = MeetsNoLock old x new
StepCase old seat (Step.Settle x) (Answer.Locked start primary) new = MeetsSecondary old x start.0 primary new
StepCase old seat (Step.Settle x) Answer.RolledBack new = Settles old x new
StepCase old seat (Step.Clear x) Answer.Absent new = MeetsNoLock old x new
StepCase old seat (Step.Clear x) Answer.Waits new = ClearWaits old x new
StepCase old seat (Step.Clear x) (Answer.CommittedAt c) new = ClearsCommitted old x c.0 new
StepCase old seat (Step.Clear x) Answer.RolledBack new = ClearsBack old x new
StepCase old seat (Step.NextMark after) (Answer.Marked x) new = FindsMark old after x new
StepCase old seat (Step.NextMark after) Answer.NoMark new = FindsNone old after new
StepCase old seat (Step.Sweep x) Answer.NoMark new = SweepsNothing old x new
StepCase old seat (Step.Sweep x) Answer.StillBehind new = StaysMarked old x new
StepCase old seat (Step.Sweep x) Answer.Done new = Sweeps old x new
StepCase old seat _ _ new = ⊥

-- one step of the table: a refused step has no case
pub record TableStep (old : StateOf) (seat : ℕ) (step : Step) (answer : Answer) (new : StateOf) : Type 0 where
  pub allowed : step_reason old seat step ≡ None
  pub taken : StepCase old seat step answer new
