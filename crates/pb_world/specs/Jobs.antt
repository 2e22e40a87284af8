-- The job of an actor, as the table meets it: a change or a run, with the words that both have.
use Rattle.std.specs.Prelude.{◌≡◌, ℕ, Bool, true, false, if◌then◌else◌, Option, Some, None, ◌≤◌, is_some}
use Rattle.pb_world.specs.Words.{is_batch, MAX_RECORD_BYTES, JudgedOf, IsProgram, Accepts, Step, Answer, Need, RunOf}
use Rattle.pb_txn.specs.Plans as plans
use Rattle.pb_txn.specs.Changes as changes
use Rattle.pb_notify.specs.Runs as runs
use Rattle.pb_world.specs.declared.job.ActorJob.{ActorJob}

-- the step that it asks next, if it asks one
abbrev pub next_of : ActorJob → Option Step
next_of (ActorJob.Change c) = changes.next_of c
next_of (ActorJob.Run r) = runs.next_of r

-- the answer is one that this step can have
abbrev pub CanTake : ActorJob → Answer → Type 0
CanTake j a = plans.CanTake (next_of j) a

-- after its next step was answered
abbrev pub Takes : ActorJob → Answer → ActorJob → Type 0
Takes (ActorJob.Change c) a k = k ≡ ActorJob.Change (changes.answered c a)
Takes (ActorJob.Run r) a k = (l : RunOf) × (k ≡ ActorJob.Run l) × (l ≡ runs.answered r a) × runs.HearsLook r a l

-- one instruction is next
abbrev pub is_local_need : Need → Bool
is_local_need Need.Local = true
is_local_need _ = false

-- nothing is next
abbrev pub is_over_need : Need → Bool
is_over_need (Need.Over end) = true
is_over_need _ = false

-- its machine's next instruction is next
abbrev pub is_local : ActorJob → Bool
is_local (ActorJob.Change c) = false
is_local (ActorJob.Run r) = is_local_need (runs.need_of r)

-- the slot of that instruction
abbrev pub IsSlotOf : ActorJob → Option ℕ → Type 0
IsSlotOf (ActorJob.Change c) slot = slot ≡ None
IsSlotOf (ActorJob.Run r) slot = runs.IsSlotOf r slot

-- after one instruction of its machine
abbrev pub Computes : ActorJob → ActorJob → Type 0
Computes (ActorJob.Change c) k = ⊥
Computes (ActorJob.Run r) k = (l : RunOf) × (k ≡ ActorJob.Run l) × runs.Computes r l

-- its machine's next instruction takes memory
abbrev pub GrowsNext : ActorJob → Type 0
GrowsNext (ActorJob.Change c) = ⊥
GrowsNext (ActorJob.Run r) = runs.GrowsNext r

-- it has come to its end
abbrev pub is_over : ActorJob → Bool
is_over (ActorJob.Change c) = is_some (changes.outcome_of c)
is_over (ActorJob.Run r) = is_over_need (runs.need_of r)

-- a job that is over is gone
abbrev pub unless_over : ActorJob → Option ActorJob
unless_over j = if is_over j then None else Some j

-- ---- what a launch gives

-- the rules accept it for the change record
pub record RulesAccept (j : JudgedOf) : Type 0 where
  pub program : IsProgram j.program
  pub accepts : Accepts j
  pub size : j.record_size ≤ MAX_RECORD_BYTES

-- a change of some cells, each named once, or a run of an accepted program
abbrev pub IsReady : ActorJob → Type 0
IsReady (ActorJob.Change c) = is_batch c.batch ≡ true
IsReady (ActorJob.Run r) = RulesAccept r.watch.judged
