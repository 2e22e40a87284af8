-- What holds in every world, whatever the order of its events (OSDI 2010, sections 2.2 to 2.4).
use Rattle.std.specs.Prelude.{◌≡◌, ◌≢◌, ℕ, ◌<◌, List, ◌++◌, length, Some, slice_get}
use Rattle.pb_world.specs.Words.{Ts, slots, Placement, IsPlacement, State, Stuck, act, Position, IsAtState, environment_at, Received, entries_of, TellsRecords, SeatOf, AreSeats, IsLegalTable, IsSnapshotHistory, HandlesOnce, BeginsChange, ChangeOf, BeginsRun, RunOf, MachineStandsAt, IsMachineOf, IsAskingAt, HasEnded, Event}
use Rattle.pb_world.specs.declared.actor.Actor.{Actor}
use Rattle.pb_world.specs.declared.job.ActorJob.{ActorJob}
use Rattle.pb_world.specs.declared.note.Note.{Note}
use Rattle.pb_world.specs.Events.{WorldOf, change_of, idle_actors, RunsTo}
use Rattle.pb_world.specs.Sound.{HasObserver}

-- ---- actors

-- at every placement the machine stands in a state that isn't stuck, after fewer instructions than its program has
-- slots
pub record IsNeverStuck (v : Position) : Type 0 where
  pub at : (a : Placement) → IsPlacement (length v.bytes) a → (here : State) × IsAtState v a here × (act (environment_at v a) here ≢ Stuck)
  pub few : v.taken < slots v.judged.program.insns

-- its batch is a change of the script, and the conversation is a beginning of that change
pub record HoldsOfChange (w : WorldOf) (c : ChangeOf) (said : List Received) : Type 0 where
  pub number : ℕ
  pub there : change_of w.batches number ≡ Some c.batch
  pub begins : BeginsChange c.batch said

-- The conversation is a beginning of a run of its observer on the cell of its row. Its machine, while there is one, runs the
-- observer's program on the record of what was read, had what was read as its replies, and is never stuck; while it asks, it
-- stands before the asking instruction.
pub record HoldsOfRun (w : WorldOf) (r : RunOf) (said : List Received) : Type 0 where
  pub its : HasObserver w r.watch
  pub begins : BeginsRun r.watch said
  pub machine : (s : Ts) (v : Position) → MachineStandsAt r.place s v → IsMachineOf r.watch r.place s v said × IsNeverStuck v
  pub asks : IsAskingAt r.place
  pub ended : HasEnded r.watch r.place said

-- what is promised of a job and its conversation
abbrev pub HoldsOfJob : WorldOf → ActorJob → List Received → Type 0
HoldsOfJob w (ActorJob.Change c) said = HoldsOfChange w c said
HoldsOfJob w (ActorJob.Run r) said = HoldsOfRun w r said

-- its conversation is what its seat received since the launch, and the seat's list is the journal's entries of that
-- seat
pub record HoldsOfActor (w : WorldOf) (k launched : ℕ) (seat : SeatOf) (j : ActorJob) : Type 0 where
  pub number : seat.number ≡ k
  pub entries : seat.received ≡ entries_of k w.shared.journal
  pub before : List Received
  pub said : List Received
  pub counted : length before ≡ launched
  pub received : seat.received ≡ before ++ said
  pub job : HoldsOfJob w j said

-- ---- worlds

-- the headline in one world: of each actor with a job, of the committed history, and of how often a change is handled
pub record HeadlineHolds (w : WorldOf) : Type 0 where
  pub actors : (k : ℕ) (a : Actor) (seat : SeatOf) (j : ActorJob) → slice_get w.actors k ≡ Some a → slice_get w.seats k ≡ Some seat → a.job ≡ Some j → HoldsOfActor w k a.launched seat j
  pub history : IsSnapshotHistory w.shared
  pub records : TellsRecords w.shared.journal w.shared.state
  pub once : HandlesOnce w.shared

-- a world as it is opened over a table with all its seats, its journal empty or not
pub record IsOpened (w : WorldOf) : Type 0 where
  pub legal : IsLegalTable w.shared
  pub seats : AreSeats w.shared w.seats
  pub actors : w.actors ≡ idle_actors (length w.seats)

-- one list of events after another is a run of both
abbrev pub RunsJoin : Type 0
RunsJoin = (w : WorldOf) (es : List Event) (ns : List Note) (m : WorldOf) (fs : List Event) (ks : List Note) (v : WorldOf) → RunsTo w es ns m → RunsTo m fs ks v → RunsTo w (es ++ fs) (ns ++ ks) v

-- after a beginning of a list of events there is a world, from which the rest runs on
pub record StopsBetween (w : WorldOf) (es fs : List Event) (ns : List Note) (v : WorldOf) : Type 0 where
  pub between : WorldOf
  pub before : List Note
  pub after : List Note
  pub first : RunsTo w es before between
  pub rest : RunsTo between fs after v
  pub notes : ns ≡ before ++ after

-- wherever a list of events is parted there is such a world, so that what holds after each list holds after each
-- event
abbrev pub RunsPart : Type 0
RunsPart = (w : WorldOf) (es fs : List Event) (ns : List Note) (v : WorldOf) → RunsTo w (es ++ fs) ns v → StopsBetween w es fs ns v

-- whatever events happen in an opened world
abbrev pub WorldsHold : Type 0
WorldsHold = (w : WorldOf) (es : List Event) (ns : List Note) (v : WorldOf) → IsOpened w → RunsTo w es ns v → HeadlineHolds v
