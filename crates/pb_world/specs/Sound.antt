-- What every world keeps: its journal is legal, each seat has its entries, and each actor's job is tied to what its seat received
-- since the launch.
use Rattle.std.specs.Prelude.{◌≡◌, ℕ, List, ◌++◌, length, Some, None, slice_get}
use Rattle.pb_world.specs.Words.{ObserverOf, Received, SeatOf, AreSeats, IsLegalTable, new_change, Converses, Watch, fresh, Reaches, Event, Job}
use Rattle.pb_world.specs.declared.actor.Actor.{Actor}
use Rattle.pb_world.specs.declared.job.ActorJob.{ActorJob}
use Rattle.pb_world.specs.declared.note.Note.{Note}
use Rattle.pb_world.specs.Jobs.{IsReady}
use Rattle.pb_world.specs.Events.{WorldOf, change_of, RunsTo}

-- the observer is there, with this program and this column
pub record HasObserver (w : WorldOf) (o : Watch) : Type 0 where
  pub observer : ObserverOf
  pub there : slice_get w.shared.state.observers o.observer ≡ Some observer
  pub program : o.judged ≡ observer.program
  pub column : o.column ≡ observer.column

-- the change of this number, or a run of this observer on the cell of this row
abbrev pub IsJobOf : WorldOf → Job → ActorJob → Type 0
IsJobOf w (Job.Change k) (ActorJob.Change c) = change_of w.batches k ≡ Some c.batch
IsJobOf w (Job.Run o row) (ActorJob.Run r) = (r.watch.observer ≡ o) × (r.watch.row ≡ row) × HasObserver w r.watch
IsJobOf w job j = ⊥

-- led from its first step to where it stands by its answers, and by its machine's instructions
abbrev pub HasConversed : ActorJob → List Received → Type 0
HasConversed (ActorJob.Change c) said = Converses (new_change c.batch) said c
HasConversed (ActorJob.Run r) said = Reaches (fresh r.watch) said r

-- a job of the script or of an observer, led to where it stands by the conversation
pub record JobCame (w : WorldOf) (j : ActorJob) (said : List Received) : Type 0 where
  pub job : Job
  pub its : IsJobOf w job j
  pub ready : IsReady j
  pub converses : HasConversed j said

-- what a seat received since the launch led the job to where it stands
pub record CameSinceLaunch (w : WorldOf) (seat : SeatOf) (launched : ℕ) (j : ActorJob) : Type 0 where
  pub before : List Received
  pub said : List Received
  pub counted : length before ≡ launched
  pub received : seat.received ≡ before ++ said
  pub came : JobCame w j said

-- what every event keeps; the world's own seat never has a job, since no launch reaches it
pub record IsSoundWorld (w : WorldOf) : Type 0 where
  pub legal : IsLegalTable w.shared
  pub seats : AreSeats w.shared w.seats
  pub own : (a : Actor) → slice_get w.actors 0 ≡ Some a → a.job ≡ None
  pub tied : (k : ℕ) (a : Actor) (seat : SeatOf) (j : ActorJob) → slice_get w.actors k ≡ Some a → slice_get w.seats k ≡ Some seat → a.job ≡ Some j → CameSinceLaunch w seat a.launched j

-- ---- laws

-- whatever events happen, it stays so
abbrev pub EventsKeepSound : Type 0
EventsKeepSound = (w : WorldOf) (es : List Event) (ns : List Note) (v : WorldOf) → IsSoundWorld w → RunsTo w es ns v → IsSoundWorld v
