-- Jobs of observers, as their owners see them. The contracts of `ObserverJob` cite them, and `pb_world` and
-- `pb_threads` say by them how a run goes on.
use Rattle.std.specs.Prelude.{◌≡◌, ℕ, Option, Some}
use Rattle.pb_notify.specs.Words.{Cell, Row, JudgedOf, tells_old, ObserverOf, Step, Answer}
use Rattle.pb_txn.specs.Plans as plans
use Rattle.pb_notify.specs.declared.need.Need.{Need}
use Rattle.pb_notify.specs.declared.place.RunPlace.{RunPlace}
use Rattle.pb_notify.specs.Places.{stored_step, step_at, place_after, locked_at, AtPlace, IsSlotAt, IsToldAt, GoesOnFrom, GrowsAt}

-- an observer with its program, and the row and column of a cell that it watches
pub record Watch : Type 0 where
  pub observer : ℕ
  pub judged : JudgedOf
  pub row : Row
  pub column : ℕ

-- what the observer of this number watches in a row
abbrev pub watch_of : ℕ → ObserverOf → Row → Watch
watch_of n observer row = record { observer = n; judged = observer.program; row = row; column = observer.column }

-- what it is a run on, how many reads met a lock, and where it stands
pub record RunOf : Type 0 where
  pub watch : Watch
  pub locked : ℕ
  pub place : RunPlace

-- before its first step
abbrev pub fresh : Watch → RunOf
fresh o = record { watch = o; locked = 0; place = RunPlace.Beginning }

-- the step that it asks next, while it needs an answer
abbrev pub next_of : RunOf → Option Step
next_of j = step_at j.watch.observer j.watch.row j.watch.column j.place

-- there is such a step, on which an owner who has to call may rely
abbrev pub HasNext : RunOf → Type 0
HasNext j = (s : Step) × (next_of j ≡ Some s)

-- in the machine's turn one instruction, at the end nothing, and else an answer of the table
abbrev pub need_at : RunPlace → Need
need_at (RunPlace.Starting s seen) = Need.Local
need_at (RunPlace.Computing s v) = Need.Local
need_at (RunPlace.Over end) = Need.Over end
need_at _ = Need.Call

-- what a job needs next
abbrev pub need_of : RunOf → Need
need_of j = need_at j.place

-- the slot of its machine's next instruction, where that is next
abbrev pub IsSlotOf : RunOf → Option ℕ → Type 0
IsSlotOf j slot = IsSlotAt j.place slot

-- after its next step was answered
abbrev pub answered : RunOf → Answer → RunOf
answered j a = record j { locked = locked_at j.locked j.place a; place = place_after (tells_old j.watch.judged) j.locked j.place a }

-- its machine received what a look for it found
abbrev pub HearsLook : RunOf → Answer → RunOf → Type 0
HearsLook j a k = IsToldAt j.locked j.place a k.place

-- there is a next step, which can have this answer
abbrev pub CanTake : RunOf → Answer → Type 0
CanTake j a = plans.CanTake (next_of j) a

-- ---- one instruction

-- the machine does one, and all but the place is as before
pub record Computes (j k : RunOf) : Type 0 where
  pub comes : GoesOnFrom j.watch.observer j.watch.judged (Cell.Data j.watch.row j.watch.column) j.place k.place
  pub same : k ≡ record j { place = k.place }

-- its next instruction takes memory: the first, or the exit
abbrev pub GrowsNext : RunOf → Type 0
GrowsNext j = GrowsAt j.place

-- ---- how a job is kept

-- the step is kept as it comes, so that it can be lent, and the parts fit the place
pub record IsJob (o : ℕ) (row : Row) (column locked : ℕ) (place : RunPlace) (next : Option Step) : Type 0 where
  pub stored : next ≡ stored_step o row column place
  pub at : AtPlace locked place
