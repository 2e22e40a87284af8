-- Where a job stands: the step at each place, and where each answer and each instruction leads. A job's value has its
-- place, so that the order of a run is read off these functions, and its conversation is a law (Forms).
use Rattle.std.specs.Prelude.{◌≡◌, ℕ, ◌<◌, Bool, nat_lt, if◌then◌else◌, length, Option, Some, None, MatchOption}
use Rattle.pb_notify.specs.Words.{Cell, Row, Ts, Revision, JudgedOf, Ask, tells_old, record_by, MachinePhase, IsAtSlot, Position, Seen, Work, Declared, Step, Answer, old_at, version_in, acknowledged_in, value_in, Outcome, PlanOf, fresh, outcome_of, CanTake, Moved, AskedFor}
use Rattle.pb_txn.specs.Places as orders
use Rattle.pb_txn.specs.Plans as plans
use Rattle.pb_notify.specs.declared.look.TheConstants.{MAX_LOCKED}
use Rattle.pb_notify.specs.declared.look.Look.{Look}
use Rattle.pb_notify.specs.declared.look.Looked.{Looked}
use Rattle.pb_notify.specs.declared.need.JobEnd.{JobEnd}
use Rattle.pb_notify.specs.declared.place.RunPlace.{RunPlace}
use Rattle.pb_notify.specs.Looks.{look_step, look_after, locked_after}
use Rattle.pb_notify.specs.Machines.{first_position, after_reply, HearsReply}
use Rattle.pb_notify.specs.Steps.{WentOn, ExitsAs, MovesOn, IsAtExit}

-- ---- the step at a place

-- the step at a place: a plan keeps its own, and there is none in the machine's turn or at the end
abbrev pub stored_step : ℕ → Row → ℕ → RunPlace → Option Step
stored_step o row column RunPlace.Beginning = Some (Step.Begin (Work.Run o row))
stored_step o row column (RunPlace.Observing s look) = Some (look_step s (Cell.Data row column) None look)
stored_step o row column (RunPlace.Acknowledging s found look) = Some (look_step s (Cell.Ack o row column) None look)
stored_step o row column (RunPlace.Recalling s seen look) = Some (look_step s (Cell.Data row column) (Some seen.acknowledged) look)
stored_step o row column (RunPlace.Asking s v q look) = Some (look_step s (Cell.Data q.row q.column) None look)
stored_step o row column (RunPlace.Sweeping end) = Some (Step.Sweep (Cell.Data row column))
stored_step o row column _ = None

-- the step at a place, for a run of this observer on this cell
abbrev pub step_at : ℕ → Row → ℕ → RunPlace → Option Step
step_at o row column (RunPlace.Planning r p) = plans.next_of p
step_at o row column place = stored_step o row column place

-- ---- where an answer leads

-- the begin is answered with the start, and the look at the cell is next
abbrev pub after_begin : Answer → RunPlace
after_begin (Answer.At s) = RunPlace.Observing s Look.Reading
after_begin _ = RunPlace.Beginning

-- a cell without a version is clean, whatever is acknowledged
abbrev pub if_found : Ts → Option Revision → RunPlace
if_found s None = RunPlace.Sweeping JobEnd.Clean
if_found s (Some found) = RunPlace.Acknowledging s found Look.Reading

-- after a look at the observed cell
abbrev pub after_cell : Ts → Looked → RunPlace
after_cell s (Looked.On look) = RunPlace.Observing s look
after_cell s (Looked.Tells a) = if_found s (version_in a)
after_cell s Looked.Blocks = RunPlace.Over JobEnd.Blocked

-- the machine's turn, after a look at the cell as of a timestamp if there is one
abbrev pub if_recalled : Ts → Seen → Option Ts → RunPlace
if_recalled s seen None = RunPlace.Starting s seen
if_recalled s seen (Some t) = RunPlace.Recalling s seen Look.Reading

-- what was seen of the cell so far
abbrev pub seen_so_far : Revision → Ts → Seen
seen_so_far found acknowledged = record { version = found; acknowledged = acknowledged; old = None }

-- a cell is dirty where its commit is greater than the acknowledged timestamp
abbrev pub if_dirty : Bool → Ts → Revision → Ts → RunPlace
if_dirty second s found acknowledged = if nat_lt acknowledged.0 found.commit.0 then if_recalled s (seen_so_far found acknowledged) (old_at second acknowledged) else RunPlace.Sweeping JobEnd.Clean

-- after a look at the acknowledgment: where it is absent the acknowledged timestamp is 0
abbrev pub after_acknowledgment : Bool → Ts → Revision → Looked → RunPlace
after_acknowledgment second s found (Looked.On look) = RunPlace.Acknowledging s found look
after_acknowledgment second s found (Looked.Tells a) = if_dirty second s found (acknowledged_in a)
after_acknowledgment second s found Looked.Blocks = RunPlace.Over JobEnd.Blocked

-- after a look as of the acknowledged timestamp: deleted and absent are both no value of before
abbrev pub after_recall : Ts → Seen → Looked → RunPlace
after_recall s seen (Looked.On look) = RunPlace.Recalling s seen look
after_recall s seen (Looked.Tells a) = RunPlace.Starting s (record seen { old = value_in a })
after_recall s seen Looked.Blocks = RunPlace.Over JobEnd.Blocked

-- after a look for the machine, which takes a value as its reply, or that there is none
abbrev pub after_ask : Ts → Position → Ask → Looked → RunPlace
after_ask s v q (Looked.On look) = RunPlace.Asking s v q look
after_ask s v q (Looked.Tells a) = RunPlace.Computing s (after_reply v q (value_in a))
after_ask s v q Looked.Blocks = RunPlace.Over JobEnd.Blocked

-- it sweeps the cell where it committed
abbrev pub by_outcome : ℕ → PlanOf → Option Outcome → RunPlace
by_outcome r p None = RunPlace.Planning r p
by_outcome r p (Some (Outcome.Committed c)) = RunPlace.Sweeping (JobEnd.Ran r)
by_outcome r p (Some Outcome.Conflicted) = RunPlace.Over JobEnd.Conflicted
by_outcome r p (Some Outcome.Lost) = RunPlace.Over JobEnd.Lost

-- after an answer to its plan, which goes on or has an outcome
abbrev pub after_plan : ℕ → PlanOf → RunPlace
after_plan r p = by_outcome r p (outcome_of p)

-- after so many reads that met a lock, of a program that is given what its cell held at the acknowledged timestamp, or
-- isn't
abbrev pub place_after : Bool → ℕ → RunPlace → Answer → RunPlace
place_after second locked RunPlace.Beginning a = after_begin a
place_after second locked (RunPlace.Observing s look) a = after_cell s (look_after locked look a)
place_after second locked (RunPlace.Acknowledging s found look) a = after_acknowledgment second s found (look_after locked look a)
place_after second locked (RunPlace.Recalling s seen look) a = after_recall s seen (look_after locked look a)
place_after second locked (RunPlace.Starting s seen) a = RunPlace.Starting s seen
place_after second locked (RunPlace.Computing s v) a = RunPlace.Computing s v
place_after second locked (RunPlace.Asking s v q look) a = after_ask s v q (look_after locked look a)
place_after second locked (RunPlace.Planning r p) a = after_plan r (plans.answered p a)
place_after second locked (RunPlace.Sweeping end) a = RunPlace.Over end
place_after second locked (RunPlace.Over end) a = RunPlace.Over end

-- where a look for the machine comes to its end, the machine gets its reply
abbrev pub IsToldBy : Position → Ask → Looked → RunPlace → Type 0
IsToldBy v q (Looked.Tells a) (RunPlace.Computing s w) = HearsReply v q a w
IsToldBy v q looked place = Unit {0}

-- only a look for the machine gives it a reply
abbrev pub IsToldAt : ℕ → RunPlace → Answer → RunPlace → Type 0
IsToldAt locked (RunPlace.Asking s v q look) a place = IsToldBy v q (look_after locked look a) place
IsToldAt locked before a place = Unit {0}

-- how many reads met a lock by then
abbrev pub locked_at : ℕ → RunPlace → Answer → ℕ
locked_at locked (RunPlace.Observing s look) a = locked_after locked look a
locked_at locked (RunPlace.Acknowledging s found look) a = locked_after locked look a
locked_at locked (RunPlace.Recalling s seen look) a = locked_after locked look a
locked_at locked (RunPlace.Asking s v q look) a = locked_after locked look a
locked_at locked _ a = locked

-- ---- where an instruction leads

-- one instruction of a run of this observer, begun at this start, leads from the position to the place: the machine goes
-- on, a cell is read for it, or its run is declared by a plan from the same start
pub data ComesTo (o : ℕ) (s : Ts) (v : Position) : RunPlace → Type 0 where
  goes : (w : Position) → WentOn v w → ComesTo o s v (RunPlace.Computing s w)
  waits : (w : Position) (q : Ask) → AskedFor v q w → ComesTo o s v (RunPlace.Asking s w q Look.Reading)
  declares : (r : ℕ) (what : Declared) → ExitsAs o v r what → ComesTo o s v (RunPlace.Planning r (fresh s.0 what))

-- the machine begins on the record of what was seen of the cell
pub record MachineStarts (o : ℕ) (judged : JudgedOf) (x : Cell) (s : Ts) (seen : Seen) (place : RunPlace) : Type 0 where
  pub size : length (record_by (tells_old judged) x seen.version seen.acknowledged.0 seen.old) ≡ judged.record_size
  pub comes : ComesTo o s (first_position judged (record_by (tells_old judged) x seen.version seen.acknowledged.0 seen.old) s.0) place

-- from a place: the machine begins, or goes on where it stands
abbrev pub GoesOnFrom : ℕ → JudgedOf → Cell → RunPlace → RunPlace → Type 0
GoesOnFrom o judged x (RunPlace.Starting s seen) place = MachineStarts o judged x s seen place
GoesOnFrom o judged x (RunPlace.Computing s v) place = ComesTo o s v place
GoesOnFrom o judged x _ place = ⊥

-- one instruction was done where the machine stands, of a run that was begun at this start
abbrev pub MovesAlong : Ts → Position → Moved → RunPlace → Type 0
MovesAlong s v m place = (w : Position) × (place ≡ RunPlace.Computing s w) × MovesOn v m w

-- the next instruction takes memory: the first, for its machine, or the exit, for what it declares
abbrev pub GrowsAt : RunPlace → Type 0
GrowsAt (RunPlace.Starting s seen) = Unit {0}
GrowsAt (RunPlace.Computing s v) = IsAtExit v
GrowsAt place = ⊥

-- ---- what holds of a place's parts

-- wherever it may read, one lock more may be met; its machine goes or asks as the place says; a plan that it follows
-- isn't over
abbrev pub AtPlace : ℕ → RunPlace → Type 0
AtPlace locked RunPlace.Beginning = locked < MAX_LOCKED
AtPlace locked (RunPlace.Observing s look) = locked < MAX_LOCKED
AtPlace locked (RunPlace.Acknowledging s found look) = locked < MAX_LOCKED
AtPlace locked (RunPlace.Recalling s seen look) = locked < MAX_LOCKED
AtPlace locked (RunPlace.Starting s seen) = locked < MAX_LOCKED
AtPlace locked (RunPlace.Computing s v) = (locked < MAX_LOCKED) × (v.phase ≡ MachinePhase.Going)
AtPlace locked (RunPlace.Asking s v q look) = (locked < MAX_LOCKED) × (v.phase ≡ MachinePhase.Asking q)
AtPlace locked (RunPlace.Planning r p) = (outcome_of p ≡ None) × orders.LiesWithin (length (orders.declared_cells p.what)) p.place
AtPlace locked (RunPlace.Sweeping end) = Unit {0}
AtPlace locked (RunPlace.Over end) = Unit {0}

-- its machine isn't started
abbrev pub IsStarting : RunPlace → Type 0
IsStarting (RunPlace.Starting s seen) = Unit {0}
IsStarting place = ⊥

-- the slot of that instruction: of the first, before the machine is started
abbrev pub IsSlotAt : RunPlace → Option ℕ → Type 0
IsSlotAt (RunPlace.Starting s seen) slot = slot ≡ Some 0
IsSlotAt (RunPlace.Computing s v) slot = MatchOption slot ⊥ (IsAtSlot v)
IsSlotAt place slot = slot ≡ None

-- its plan is next
abbrev pub IsPlanning : RunPlace → Type 0
IsPlanning (RunPlace.Planning r p) = Unit {0}
IsPlanning place = ⊥

-- where its plan is next, the answer is one that the plan's step can have
abbrev pub CanTakeAt : RunPlace → Answer → Type 0
CanTakeAt (RunPlace.Planning r p) a = CanTake (plans.next_of p) a
CanTakeAt place a = Unit {0}
