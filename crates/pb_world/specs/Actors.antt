-- What a step does to an actor and to the table. The contracts of `World` cite them. They are relations, since a step
-- of the table is one.
use Rattle.std.specs.Prelude.{◌≡◌, ℕ, MatchBool, Option, Some, None, MatchOption, Result, MatchResult}
use Rattle.pb_world.specs.Words.{Reason, reason_code, Step, Answer, CanAnswer, SharedOf, SeatOf, Calls, call_reason}
use Rattle.pb_world.specs.declared.actor.Actor.{Actor}
use Rattle.pb_world.specs.declared.actor.NotCalled.{NotCalled}
use Rattle.pb_world.specs.declared.job.ActorJob.{ActorJob}
use Rattle.pb_world.specs.declared.note.Note.{Note}
use Rattle.pb_world.specs.Jobs.{next_of, Takes, is_local, Computes, GrowsNext, unless_over}

-- the number is that of the reason for which the step is refused, and want of memory is reported where there is none
abbrev pub IsRefusedBy : SharedOf → ℕ → Step → NotCalled → Type 0
IsRefusedBy s seat step (NotCalled.Refused code) = (why : Reason) × (call_reason s seat step ≡ Some why) × (code ≡ reason_code why)
IsRefusedBy s seat step (NotCalled.NoMemory refused) = call_reason s seat step ≡ None

-- what holds with a note, and what where memory was refused
abbrev pub OnNote : {E : Type 0} → Result Note E → (Note → Type 0) → Type 0 → Type 0
OnNote r P Q = MatchResult r P (λ _. Q)

-- what a step comes to: its note, the table and the seat after it, and what is left of the job
pub record Stepped : Type 0 where
  pub note : Note
  pub table : SharedOf
  pub seat : SeatOf
  pub job : Option ActorJob

-- nothing but the job has changed
pub record ChangesJobAlone (s : SharedOf) (seat : SeatOf) (t : SharedOf) (told : SeatOf) : Type 0 where
  pub table : t ≡ s
  pub list : told ≡ seat

-- the job asks nothing
pub record AsksNothing (s : SharedOf) (seat : SeatOf) (j : ActorJob) (t : SharedOf) (told : SeatOf) : Type 0 where
  pub none : next_of j ≡ None
  pub same : ChangesJobAlone s seat t told

-- the job's next step was answered
pub record Answers (s : SharedOf) (seat : SeatOf) (j : ActorJob) (t : SharedOf) (told : SeatOf) (answer : Answer) : Type 0 where
  pub step : Step
  pub next : next_of j ≡ Some step
  pub allowed : call_reason s seat.number step ≡ None
  pub can : CanAnswer step answer
  pub calls : Calls s seat step answer t told

-- it was refused
pub record IsNotAnswered (s : SharedOf) (seat : SeatOf) (j : ActorJob) (t : SharedOf) (told : SeatOf) (why : NotCalled) : Type 0 where
  pub step : Step
  pub next : next_of j ≡ Some step
  pub refused : IsRefusedBy s seat.number step why
  pub same : ChangesJobAlone s seat t told

-- the table answers the step, and the job takes it
pub record AnswersJob (s : SharedOf) (seat : SeatOf) (j : ActorJob) (step : Step) (to : Stepped) : Type 0 where
  pub answer : Answer
  pub after : ActorJob
  pub note : to.note ≡ Note.Called answer
  pub can : CanAnswer step answer
  pub calls : Calls s seat step answer to.table to.seat
  pub takes : Takes j answer after
  pub left : to.job ≡ unless_over after

-- the table refuses the step, which ends the job
pub record RefusesJob (s : SharedOf) (seat : SeatOf) (why : Reason) (to : Stepped) : Type 0 where
  pub note : to.note ≡ Note.Refused (reason_code why)
  pub same : ChangesJobAlone s seat to.table to.seat
  pub left : to.job ≡ None

-- the call that the job asks next is answered, or refused for the first reason that applies
abbrev pub CallSteps : SharedOf → SeatOf → ActorJob → Step → Stepped → Type 0
CallSteps s seat j step to = MatchOption (call_reason s seat.number step) (AnswersJob s seat j step to) (λ why. RefusesJob s seat why to)

-- one instruction of its machine
pub record Instructs (s : SharedOf) (seat : SeatOf) (j : ActorJob) (to : Stepped) : Type 0 where
  pub after : ActorJob
  pub note : to.note ≡ Note.Instruction
  pub same : ChangesJobAlone s seat to.table to.seat
  pub computes : Computes j after
  pub left : to.job ≡ Some after

-- there was nothing to do
pub record IsIdle (s : SharedOf) (seat : SeatOf) (to : Stepped) : Type 0 where
  pub note : to.note ≡ Note.Idle
  pub same : ChangesJobAlone s seat to.table to.seat
  pub left : to.job ≡ None

-- one instruction or one call, as the job needs
abbrev pub JobSteps : SharedOf → SeatOf → ActorJob → Stepped → Type 0
JobSteps s seat j to = MatchBool (is_local j) (Instructs s seat j to) (MatchOption (next_of j) (IsIdle s seat to) (λ step. CallSteps s seat j step to))

-- without a job there is nothing to do
abbrev pub StepsTo : SharedOf → SeatOf → Option ActorJob → Stepped → Type 0
StepsTo s seat job to = MatchOption job (IsIdle s seat to) (λ j. JobSteps s seat j to)

-- what a job does next may want memory: an instruction that takes some, or a call that isn't refused
abbrev pub JobMayWant : SharedOf → ℕ → ActorJob → Type 0
JobMayWant s seat j = MatchBool (is_local j) (GrowsNext j) (MatchOption (next_of j) ⊥ (λ step. call_reason s seat step ≡ None))

-- a step of an actor without job wants no memory
abbrev pub ActorMayWant : SharedOf → ℕ → Actor → Type 0
ActorMayWant s seat a = MatchOption a.job ⊥ (JobMayWant s seat)

-- a step of an actor, which stays launched as it was
pub record ActorSteps (s : SharedOf) (seat : SeatOf) (a : Actor) (n : Note) (t : SharedOf) (told : SeatOf) (b : Actor) : Type 0 where
  pub launched : b.launched ≡ a.launched
  pub steps : StepsTo s seat a.job (record { note = n; table = t; seat = told; job = b.job })

-- an actor with a job made now, whose seat's list has this length
abbrev pub launched : ℕ → ActorJob → Actor
launched said j = record { launched = said; job = Some j }

-- an actor that has lost its job; when it was launched is of no more use
abbrev pub crashed : Actor → Actor
crashed a = record { launched = a.launched; job = None }

-- an actor without job has nothing to lose
abbrev pub crash_note : Option ActorJob → Note
crash_note None = Note.Idle
crash_note (Some j) = Note.Crashed
