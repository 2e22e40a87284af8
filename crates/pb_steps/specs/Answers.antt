-- The answers that a step can have, in any state. They are promised to those who make calls (`Shared::call`, a worker's call), so
-- that a job needn't look for answers that never come.
use Rattle.pb_steps.specs.declared.step.Step.{Step}
use Rattle.pb_steps.specs.declared.step.Answer.{Answer}

-- this step may be answered so, in some state
abbrev pub CanAnswer : Step → Answer → Type 0
CanAnswer (Step.Begin work) (Answer.At s) = Unit {0}
CanAnswer (Step.Read s x) (Answer.Locked start primary) = Unit {0}
CanAnswer (Step.Read s x) (Answer.Found start commit content) = Unit {0}
CanAnswer (Step.Read s x) Answer.Absent = Unit {0}
CanAnswer (Step.ReadAt s x t) (Answer.Locked start primary) = Unit {0}
CanAnswer (Step.ReadAt s x t) (Answer.Found start commit content) = Unit {0}
CanAnswer (Step.ReadAt s x t) Answer.Absent = Unit {0}
CanAnswer (Step.Declare s what) Answer.Done = Unit {0}
CanAnswer (Step.Prewrite s x) Answer.Done = Unit {0}
CanAnswer (Step.Prewrite s x) Answer.Conflict = Unit {0}
CanAnswer (Step.Stamp s) (Answer.At c) = Unit {0}
CanAnswer (Step.CommitPrimary s) Answer.Committed = Unit {0}
CanAnswer (Step.CommitPrimary s) Answer.Lost = Unit {0}
CanAnswer (Step.CommitSecondary s x) Answer.Done = Unit {0}
CanAnswer (Step.Settle x) Answer.Absent = Unit {0}
CanAnswer (Step.Settle x) (Answer.Locked start primary) = Unit {0}
CanAnswer (Step.Settle x) Answer.RolledBack = Unit {0}
CanAnswer (Step.Clear x) Answer.Absent = Unit {0}
CanAnswer (Step.Clear x) Answer.Waits = Unit {0}
CanAnswer (Step.Clear x) (Answer.CommittedAt c) = Unit {0}
CanAnswer (Step.Clear x) Answer.RolledBack = Unit {0}
CanAnswer (Step.NextMark after) (Answer.Marked x) = Unit {0}
CanAnswer (Step.NextMark after) Answer.NoMark = Unit {0}
CanAnswer (Step.Sweep x) Answer.NoMark = Unit {0}
CanAnswer (Step.Sweep x) Answer.StillBehind = Unit {0}
CanAnswer (Step.Sweep x) Answer.Done = Unit {0}
CanAnswer _ _ = ⊥
