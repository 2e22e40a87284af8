-- Where the machine of a job stands: its program led it there from entry, on the record of what the job read and with
-- the replies that it read.
use Rattle.std.specs.Prelude.{◌≡◌, ℕ, List, [], ◌∷◌, ◌++◌, length, Option, None}
use Rattle.pb_notify.specs.Words.{Cell, Ts, Placement, IsPlacement, State, tells_old, record_by, Position, IsAtState, AsksAt, Meant, IsMeant, Talk, Declared, Step, Answer, CanAnswer, PlanOf, Converses, told, Seen, Received}
use Rattle.pb_txn.specs.Plans as plans
use Rattle.pb_notify.specs.declared.need.JobEnd.{JobEnd}
use Rattle.pb_notify.specs.declared.place.RunPlace.{RunPlace}
use Rattle.pb_notify.specs.Runs.{Watch, RunOf, fresh}
use Rattle.pb_notify.specs.Conversations.{Reaches}
use Rattle.pb_notify.specs.Forms.{IsLooking, AreAsked, IsRunOn, IsRunConversation, WasMeant}

-- the machine of a place stands at this position, begun at this start
abbrev pub MachineStandsAt : RunPlace → Ts → Position → Type 0
MachineStandsAt (RunPlace.Computing t w) s v = (t ≡ s) × (w ≡ v)
MachineStandsAt (RunPlace.Asking t w q look) s v = (t ≡ s) × (w ≡ v)
MachineStandsAt place s v = ⊥

-- at every placement its instructions led from entry to a state, with exactly its asks and replies
abbrev pub IsLed : Position → Type 0
IsLed v = (a : Placement) → IsPlacement (length v.bytes) a → (here : State) × IsAtState v a here

-- the conversation since the machine had its last reply: empty while it computes, and a beginning of one look at the cell while
-- it asks
abbrev pub IsSaidSince : RunPlace → ℕ → List Received → List Received → Type 0
IsSaidSince (RunPlace.Computing s v) met base said = said ≡ base
IsSaidSince (RunPlace.Asking s v q look) met base said = IsLooking s (Cell.Data q.row q.column) None met base said
IsSaidSince place met base said = Unit {0}

-- the program on the record of what was seen, from the start, with the replies that were read
pub record IsMachineOf (o : Watch) (place : RunPlace) (s : Ts) (v : Position) (said : List Received) : Type 0 where
  pub seen : Seen
  pub program : v.judged ≡ o.judged
  pub bytes : v.bytes ≡ record_by (tells_old o.judged) (Cell.Data o.row o.column) seen.version seen.acknowledged.0 seen.old
  pub size : length v.bytes ≡ o.judged.record_size
  pub start : v.start ≡ s.0
  pub met : ℕ
  pub base : List Received
  pub asked : AreAsked o s seen v.talk met base
  pub since : IsSaidSince place met base said
  pub led : IsLed v

-- while it looks at a cell for its machine, the next instruction asks for that cell, at every placement
abbrev pub IsAskingAt : RunPlace → Type 0
IsAskingAt (RunPlace.Asking s v q look) = (a : Placement) → IsPlacement (length v.bytes) a → AsksAt v q a
IsAskingAt place = Unit {0}

-- the plan that is followed declares a run of the program on the record of what was seen, with the replies that were
-- read, and this is what the program means by them; the conversation since is the plan's
pub record IsEndedRun (o : Watch) (r : ℕ) (p : PlanOf) (said : List Received) : Type 0 where
  pub s : Ts
  pub seen : Seen
  pub talk : Talk
  pub met : ℕ
  pub base : List Received
  pub since : List Received
  pub said_is : said ≡ base ++ since
  pub asked : AreAsked o s seen talk met base
  pub run : Meant
  pub run_on : IsRunOn o s seen talk run
  pub meant : IsMeant run
  pub result : r ≡ run.result
  pub declares : p.what ≡ Declared.Run o.observer run
  pub followed : Converses (plans.fresh s.0 p.what) since p

-- before its sweep: with the sweep's answer the conversation is whole, and if a run was declared in it,
-- that is what its program means
pub record IsBeforeSweep (o : Watch) (end : JobEnd) (said : List Received) : Type 0 where
  pub run : Option Meant
  pub meant : WasMeant run
  pub ends : (w : Answer) → CanAnswer (Step.Sweep (Cell.Data o.row o.column)) w → IsRunConversation o (said ++ told (Step.Sweep (Cell.Data o.row o.column)) w ∷ []) end run

-- what is known once the machine has ended: of the plan, or of what comes before the sweep
abbrev pub HasEnded : Watch → RunPlace → List Received → Type 0
HasEnded o (RunPlace.Planning r p) said = IsEndedRun o r p said
HasEnded o (RunPlace.Sweeping end) said = IsBeforeSweep o end said
HasEnded o place said = Unit {0}

-- a job that looks at a cell for its machine looks at the one that the next instruction asks for
abbrev pub AsksAreOpen : Type 0
AsksAreOpen = (o : Watch) (said : List Received) (k : RunOf) → Reaches (fresh o) said k → IsAskingAt k.place

-- what a job declares, or has declared before its sweep, is what its program means
abbrev pub EndedRunsMean : Type 0
EndedRunsMean = (o : Watch) (said : List Received) (k : RunOf) → Reaches (fresh o) said k → HasEnded o k.place said

-- the machine of a job was led to where it stands, on what the job read
abbrev pub MachinesAreLed : Type 0
MachinesAreLed = (o : Watch) (said : List Received) (k : RunOf) (s : Ts) (v : Position) → Reaches (fresh o) said k
    → MachineStandsAt k.place s v → IsMachineOf o k.place s v said
