-- Runs: workers make a script's changes and run a manifest's observers on them, and the report is of what they left.
-- Threads may take their turns in any way, so it is a relation: what they leave is given by their seats and the journal.
-- `run_texts` cites it.
use Rattle.std.specs.Prelude.{◌≡◌, ℕ, ◌+◌, ◌-◌, List, length, Option, Result, Ok, Err}
use Rattle.pb_driver.specs.Words.{Refusal, Writes, ObserverOf, IsLegal, SharedOf, SeatOf, AreSeats, IsLegalTable, Agree, opening_of, MakesChanges, Spare, WorkedOn, KeepsOpening, Taking, TookNothing, WroteTableReport, BeganTableReport}
use Rattle.pb_driver.specs.declared.fault.RunFault.{RunFault}
use Rattle.pb_driver.specs.declared.run.Ran.{Ran}
use Rattle.pb_driver.specs.Texts.{IsRunRead, IsRunUnread, table_opened}

-- ---- what workers leave

-- the table, its seats, the first refusal of each, and the changes of which no try committed
pub record Remains : Type 0 where
  pub table : SharedOf
  pub seats : List SeatOf
  pub refusals : List (Option Refusal)
  pub unfinished : List ℕ

-- workers went over the table as it was opened, beside the swaps of these spares, and left this
pub record WorkersLeave (before : SharedOf) (olds : List SeatOf) (batches : List Writes) (spares : List Spare) (left : Remains) : Type 0 where
  pub worked : WorkedOn (opening_of before) before.state.observers batches spares olds left.seats left.refusals left.unfinished
  pub keeps : KeepsOpening before left.table

-- Beside that, the journal is legal from the table as opened, its entries of each seat are that seat's list, and the changes that
-- aren't named as unfinished are committed script transactions of it, each once; on a table as opened there are no others.
pub record FinishAccepts (before : SharedOf) (olds : List SeatOf) (batches : List Writes) (spares : List Spare) (left : Remains) : Type 0 where
  pub leave : WorkersLeave before olds batches spares left
  pub legal : IsLegal before.state.observers before.state.seats before.opened left.table.journal left.table.state
  pub agree : Agree left.table left.seats
  pub made : MakesChanges before left.table (length olds - 1) batches left.unfinished

-- ---- the report

-- this names what is left undone
abbrev pub TellsUndone : Ran → Remains → Type 0
TellsUndone ran left = (ran.refusals.items ≡ left.refusals) × (ran.unfinished.items ≡ left.unfinished)

-- how it ended for what was left, and what the sink took
abbrev pub Concludes : Remains → Taking → Result Ran RunFault → Type 0
Concludes left out (Ok ran) = IsLegalTable left.table × Agree left.table left.seats × TellsUndone ran left × WroteTableReport left.table out
Concludes left out (Err RunFault.Output) = IsLegalTable left.table × Agree left.table left.seats × BeganTableReport left.table out
Concludes left out (Err RunFault.SeatsDiffer) = (Agree left.table left.seats → ⊥) × TookNothing out
Concludes left out (Err (RunFault.NoMemory refused)) = Agree left.table left.seats × TookNothing out
Concludes left out (Err _) = ⊥

-- the report of what workers left was written, and what they left undone is reported
pub record WroteRunReport (before : SharedOf) (olds : List SeatOf) (batches : List Writes) (spares : List Spare) (ran : Ran) (out : Taking) : Type 0 where
  pub left : Remains
  pub accepts : FinishAccepts before olds batches spares left
  pub undone : TellsUndone ran left
  pub wrote : WroteTableReport left.table out

-- a beginning of that report was written
pub record BeganRunReport (before : SharedOf) (olds : List SeatOf) (batches : List Writes) (spares : List Spare) (out : Taking) : Type 0 where
  pub left : Remains
  pub accepts : FinishAccepts before olds batches spares left
  pub began : BeganTableReport left.table out

-- workers left seats that aren't what the journal records of them
pub record SeatsLeftDiffer (before : SharedOf) (olds : List SeatOf) (batches : List Writes) (spares : List Spare) : Type 0 where
  pub left : Remains
  pub leave : WorkersLeave before olds batches spares left
  pub differ : Agree left.table left.seats → ⊥

-- how a run on a table as opened ended, and what the sink took
abbrev pub RunsOnTable : SharedOf → List SeatOf → List Writes → List Spare → Taking → Result Ran RunFault → Type 0
RunsOnTable before olds batches spares out (Ok ran) = WroteRunReport before olds batches spares ran out
RunsOnTable before olds batches spares out (Err RunFault.Output) = BeganRunReport before olds batches spares out
RunsOnTable before olds batches spares out (Err RunFault.SeatsDiffer) = SeatsLeftDiffer before olds batches spares × TookNothing out
RunsOnTable before olds batches spares out (Err (RunFault.NoMemory refused)) = TookNothing out
RunsOnTable before olds batches spares out (Err _) = ⊥

-- ---- the whole

-- The two texts are read, and the run ended so over a table of so many tablets as opened with the manifest's observers, a seat for each worker
-- and the main one, and the clock at `last`.
pub record RanOn (places : ℕ) (manifest script : List ℕ) (workers last : ℕ) (spares : List Spare) (out : Taking) (result : Result Ran RunFault) : Type 0 where
  pub observers : List ObserverOf
  pub batches : List Writes
  pub read : IsRunRead manifest script observers batches
  pub seats : List SeatOf
  pub seated : AreSeats (table_opened places observers (workers + 1) last) seats
  pub ends : RunsOnTable (table_opened places observers (workers + 1) last) seats batches spares out result

-- how a run of two texts ended, and what the sink took
abbrev pub RunsTexts : ℕ → List ℕ → List ℕ → ℕ → ℕ → List Spare → Taking → Result Ran RunFault → Type 0
RunsTexts places manifest script workers last spares out (Ok ran) = RanOn places manifest script workers last spares out (Ok ran)
RunsTexts places manifest script workers last spares out (Err (RunFault.NoMemory refused)) = TookNothing out
RunsTexts places manifest script workers last spares out (Err RunFault.Output) = RanOn places manifest script workers last spares out (Err RunFault.Output)
RunsTexts places manifest script workers last spares out (Err RunFault.SeatsDiffer) = RanOn places manifest script workers last spares out (Err RunFault.SeatsDiffer)
RunsTexts places manifest script workers last spares out (Err f) = IsRunUnread manifest script f × TookNothing out
