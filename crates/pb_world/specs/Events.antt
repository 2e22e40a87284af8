-- Worlds, and runs of a list of events. The contracts of `World` cite them, and the laws of this crate and of
-- `law_worlds` speak of `RunsTo`.
use Rattle.std.specs.Prelude.{◌≡◌, ℕ, ◌-◌, ◌≤◌, ◌==◌, if◌then◌else◌, List, [], ◌∷◌, length, take, replicate, Option, Some, None, MatchOption, Result, Ok, Err, slice_get, slice_set, ◌⊎◌, option_map, option_and_then}
use Rattle.pb_world.specs.Words.{Writes, reason_code, Row, Step, Answer, ObserverOf, SharedOf, SeatOf, Calls, call_reason, new_change, watch_of, fresh, Event, Job}
use Rattle.pb_world.specs.declared.actor.Actor.{Actor}
use Rattle.pb_world.specs.declared.fault.EventFault.{EventFault}
use Rattle.pb_world.specs.declared.job.ActorJob.{ActorJob}
use Rattle.pb_world.specs.declared.note.Note.{Note}
use Rattle.pb_world.specs.Faults.{fault_code, memory_fault}
use Rattle.pb_world.specs.Jobs.{IsReady}
use Rattle.pb_world.specs.Actors.{ActorSteps, ActorMayWant, launched, crashed, crash_note}

-- A world, as its owner sees it. An actor has the seat of its number; the world's own steps are taken by seat 0, whose
-- actor has no job.
pub record WorldOf : Type 0 where
  pub shared : SharedOf
  pub seats : List SeatOf
  pub actors : List Actor
  pub batches : List Writes

-- an actor for each seat, and a seat of the world's own
pub record IsWorld (w : WorldOf) : Type 0 where
  pub seated : length w.actors ≡ length w.seats
  pub some : 1 ≤ length w.seats

-- as many actors without job
abbrev pub idle_actors : ℕ → List Actor
idle_actors n = replicate n (record { launched = 0; job = None })

-- ---- what can be launched

-- the change of this number, from 1
abbrev pub change_of : List Writes → ℕ → Option Writes
change_of batches k = if k == 0 then None else slice_get batches (k - 1)

-- a run of the observer of this number on the cell of this row and of its column
abbrev pub run_of : List ObserverOf → ℕ → Row → Option ActorJob
run_of observers o row = option_map (λ (x : ObserverOf). ActorJob.Run (fresh (watch_of o x row))) (slice_get observers o)

-- the job that a launch gives, before its first step; none where there is no such change or observer
abbrev pub job_for : WorldOf → Job → Option ActorJob
job_for w (Job.Change k) = option_map (λ batch. ActorJob.Change (new_change batch)) (change_of w.batches k)
job_for w (Job.Run o row) = run_of w.shared.state.observers o row

-- ---- faults

-- the actor of this number, from 1
abbrev pub actor_of : WorldOf → ℕ → Option Actor
actor_of w k = if k == 0 then None else slice_get w.actors k

-- and the job that it has
abbrev pub held_job : WorldOf → ℕ → Option ActorJob
held_job w k = option_and_then (λ (a : Actor). a.job) (actor_of w k)

-- 63, where there is no such change or observer
abbrev pub no_job : Option ActorJob → Option EventFault
no_job None = Some EventFault.NoSuchJob
no_job (Some j) = None

-- 61, where the actor has a job, also where 63 would apply
abbrev pub no_launch_by : Option ActorJob → Option ActorJob → Option EventFault
no_launch_by (Some j) made = Some EventFault.Busy
no_launch_by None made = no_job made

-- why a launch can't happen, the lowest number first
abbrev pub no_launch : Option Actor → Option ActorJob → Option EventFault
no_launch None made = Some EventFault.NoSuchActor
no_launch (Some a) made = no_launch_by a.job made

-- 60, where there is no such actor
abbrev pub no_actor : Option Actor → Option EventFault
no_actor None = Some EventFault.NoSuchActor
no_actor (Some a) = None

-- why an event can't happen, if it can't
abbrev pub fault_of : WorldOf → Event → Option EventFault
fault_of w (Event.Launch k job) = no_launch (actor_of w k) (job_for w job)
fault_of w (Event.Step k) = no_actor (actor_of w k)
fault_of w (Event.Crash k) = no_actor (actor_of w k)
fault_of w _ = None

-- ---- what events do

-- the world with this actor in its place
abbrev pub with_actor : WorldOf → ℕ → Actor → WorldOf
with_actor w k a = record w { actors = slice_set w.actors k a }

-- the actor gets the job, and how long its seat's list is then is kept; the table isn't asked
pub record Launches (w : WorldOf) (k : ℕ) (job : Job) (n : Note) (v : WorldOf) : Type 0 where
  pub seat : SeatOf
  pub made : ActorJob
  pub its_seat : slice_get w.seats k ≡ Some seat
  pub made_is : job_for w job ≡ Some made
  pub ready : IsReady made
  pub note : n ≡ Note.Launched
  pub after : v ≡ with_actor w k (launched (length seat.received) made)

-- a step of the actor, by the seat of its number: no other actor and no other seat is changed
pub record StepsActor (w : WorldOf) (k : ℕ) (n : Note) (v : WorldOf) : Type 0 where
  pub seat : SeatOf
  pub actor : Actor
  pub told : SeatOf
  pub stepped : Actor
  pub its_seat : slice_get w.seats k ≡ Some seat
  pub its_actor : slice_get w.actors k ≡ Some actor
  pub steps : ActorSteps w.shared seat actor n v.shared told stepped
  pub after : v ≡ record w { shared = v.shared; seats = slice_set w.seats k told; actors = slice_set w.actors k stepped }

-- the actor loses its job: table and seats stay as they are, with the locks of its transaction
pub record CrashesActor (w : WorldOf) (k : ℕ) (n : Note) (v : WorldOf) : Type 0 where
  pub actor : Actor
  pub its_actor : slice_get w.actors k ≡ Some actor
  pub note : n ≡ crash_note actor.job
  pub after : v ≡ with_actor w k (crashed actor)

-- the world's own step was answered
pub record OwnAnswers (w : WorldOf) (seat : SeatOf) (step : Step) (n : Note) (v : WorldOf) : Type 0 where
  pub answer : Answer
  pub told : SeatOf
  pub note : n ≡ Note.Called answer
  pub calls : Calls w.shared seat step answer v.shared told
  pub after : v ≡ record w { shared = v.shared; seats = slice_set w.seats 0 told }

-- a step of the world's own, by seat 0; refused, it changes nothing
pub record OwnCalls (w : WorldOf) (step : Step) (n : Note) (v : WorldOf) : Type 0 where
  pub seat : SeatOf
  pub its_seat : slice_get w.seats 0 ≡ Some seat
  pub calls : MatchOption (call_reason w.shared seat.number step) (OwnAnswers w seat step n v) (λ why. (n ≡ Note.Refused (reason_code why)) × (v ≡ w))

-- what each kind of event does, with its note
abbrev pub EventDoes : WorldOf → Event → Note → WorldOf → Type 0
EventDoes w (Event.Launch k job) n v = Launches w k job n v
EventDoes w (Event.Step k) n v = StepsActor w k n v
EventDoes w (Event.Crash k) n v = CrashesActor w k n v
EventDoes w (Event.Settle x) n v = OwnCalls w (Step.Settle x) n v
EventDoes w (Event.Clear x) n v = OwnCalls w (Step.Clear x) n v
EventDoes w (Event.Sweep x) n v = OwnCalls w (Step.Sweep x) n v

-- one event that is not at fault
pub record Happens (w : WorldOf) (e : Event) (n : Note) (v : WorldOf) : Type 0 where
  pub can : fault_of w e ≡ None
  pub does : EventDoes w e n v

-- ---- what may want memory

-- what the actor does next may want memory
pub record StepMayWant (w : WorldOf) (k : ℕ) : Type 0 where
  pub seat : SeatOf
  pub actor : Actor
  pub its_seat : slice_get w.seats k ≡ Some seat
  pub its_actor : slice_get w.actors k ≡ Some actor
  pub wants : ActorMayWant w.shared seat.number actor

-- a call of seat 0 that isn't refused may want memory
pub record OwnMayWant (w : WorldOf) (step : Step) : Type 0 where
  pub seat : SeatOf
  pub its_seat : slice_get w.seats 0 ≡ Some seat
  pub wants : call_reason w.shared seat.number step ≡ None

-- a crash and a step of an idle actor take none, and a call that is refused neither
abbrev pub MayWant : WorldOf → Event → Type 0
MayWant w (Event.Launch k job) = Unit {0}
MayWant w (Event.Step k) = StepMayWant w k
MayWant w (Event.Crash k) = ⊥
MayWant w (Event.Settle x) = OwnMayWant w (Step.Settle x)
MayWant w (Event.Clear x) = OwnMayWant w (Step.Clear x)
MayWant w (Event.Sweep x) = OwnMayWant w (Step.Sweep x)

-- the event isn't at fault, and what it does may want memory
pub record EventMayWant (w : WorldOf) (e : Event) : Type 0 where
  pub can : fault_of w e ≡ None
  pub wants : MayWant w e

-- an event was tried: it happened, with its note; or it did nothing, at fault or since memory was refused
abbrev pub TriesEvent : WorldOf → Event → Result Note EventFault → WorldOf → Type 0
TriesEvent w e (Ok n) v = Happens w e n v
TriesEvent w e (Err f) v = (v ≡ w) × (((f ≡ memory_fault) × EventMayWant w e) ⊎ (fault_of w e ≡ Some f))

-- ---- lists of events

-- each event happens in turn, with its note
abbrev pub RunsTo : WorldOf → List Event → List Note → WorldOf → Type 0
RunsTo w [] [] v = v ≡ w
RunsTo w (e ∷ es) (n ∷ ns) v = (m : WorldOf) × Happens w e n m × RunsTo m es ns v
RunsTo w _ _ v = ⊥

-- The events before this one happened, and it did nothing: memory was refused, or it is at fault by itself.
pub record StopsAtEvent (w : WorldOf) (es : List Event) (at code : ℕ) (v : WorldOf) : Type 0 where
  pub notes : List Note
  pub within : at ≤ length es
  pub before : RunsTo w (take at es) notes v
  pub why : ((code ≡ fault_code memory_fault) × ((at ≡ 0) ⊎ ((event : Event) × (slice_get es at ≡ Some event) × EventMayWant v event))) ⊎ ((event : Event) × (fault : EventFault) × (slice_get es at ≡ Some event) × (fault_of v event ≡ Some fault) × (code ≡ fault_code fault))
