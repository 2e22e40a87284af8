-- How a run of workers ends, by what its calls answered.
use Rattle.std.proofs.Common.{arith, ap, ◌≡◌, ◌<◌, List, [], length, Result, Ok, Err}
use Rattle.pb_driver.specs.Words.{Writes, IsLegal, SharedOf, SeatOf, AreSeats, IsLegalTable, Agree, OpeningOf, opening_of, ChangesAreMade, Spare, KeepsOpening, Taking}
use Rattle.pb_driver.specs.declared.fault.RunFault.{RunFault}
use Rattle.pb_driver.specs.declared.run.Ran.{Ran}
use Rattle.pb_driver.specs.Runs.{Remains, WorkersLeave, FinishAccepts, Concludes, RunsOnTable}

-- a legal journal is so from what the table was opened with
legal_from : (before after : SharedOf) → KeepsOpening before after → IsLegalTable after → IsLegal before.state.observers before.state.seats before.opened after.journal after.state
legal_from before after k legal =
    let observers : after.state.observers ≡ before.state.observers = ap (λ (o : OpeningOf). o.observers) k in
    let seats : after.state.seats ≡ before.state.seats = ap (λ (o : OpeningOf). o.seats) k in
    let opened : after.opened ≡ before.opened = ap (λ (o : OpeningOf). o.opened) k in
    grind arith

module _ (law : ChangesAreMade) (before : SharedOf) (olds : List SeatOf) (batches : List Writes) (spares : List Spare) (seated : AreSeats before olds) (some : 1 < length olds) (left : Remains) (leave : WorkersLeave before olds batches spares left) where
  accepts : IsLegalTable left.table → Agree left.table left.seats → FinishAccepts before olds batches spares left
  accepts legal agree = record {
    leave = leave;
    legal = legal_from before left.table leave.keeps legal;
    agree = agree;
    made = law (opening_of before) before.state.observers batches spares olds left.seats left.refusals left.unfinished before left.table seated some leave.worked legal agree;
  }

  pub table_run_ends : (out : Taking) (r : Result Ran RunFault) → Concludes left out r → RunsOnTable before olds batches spares out r
  table_run_ends out (Ok ran) c = record { left = left; accepts = accepts c.0 c.1; undone = c.2; wrote = c.3 }
  table_run_ends out (Err RunFault.Output) c = record { left = left; accepts = accepts c.0 c.1; began = c.2 }
  table_run_ends out (Err RunFault.SeatsDiffer) c = (record { left = left; leave = leave; differ = c.0 }, c.1)
  table_run_ends out (Err (RunFault.NoMemory refused)) c = c.1
  table_run_ends out (Err (RunFault.Manifest f)) c = absurd c
  table_run_ends out (Err (RunFault.Script f)) c = absurd c
  table_run_ends out (Err (RunFault.Schedule f)) c = absurd c
  table_run_ends out (Err (RunFault.Event f)) c = absurd c
