-- The report of a table, written to a sink: what `report` promises, also where a write fails.
use Rattle.std.specs.Prelude.{ℕ, List, Result, Ok, Err}
use Rattle.std.specs.FinMap as finite
use Rattle.pb_script.specs.Words.{lock_count, SharedOf, Taking, TookAll, TookPart, TookNothing}
use Rattle.pb_script.specs.declared.fault.ReportFault.{ReportFault}
use Rattle.pb_script.specs.ReportLines.{Tallies}
use Rattle.pb_script.specs.Reports.{IsReportOf}
use Rattle.pb_script.specs.Committed.{IsSeenAt}
use Rattle.pb_script.specs.Tallies.{AreTallies}

-- The report of a table: what the snapshot at its clock has of each data cell, how many runs of each observer are
-- committed, and the marks and locks that stand.
pub record IsReportIn (shared : SharedOf) (text : List ℕ) : Type 0 where
  pub runs : Tallies
  pub tallied : AreTallies shared.state.observers shared.journal 0 shared.state.observers runs
  pub reported : IsReportOf (IsSeenAt shared.state.observers shared.journal shared.state.clock) runs (finite.len shared.state.marks) (lock_count shared.state.entries) text

-- the report was written
pub record WroteTableReport (shared : SharedOf) (out : Taking) : Type 0 where
  pub text : List ℕ
  pub report : IsReportIn shared text
  pub taken : TookAll out text

-- a beginning of the report was written
pub record BeganTableReport (shared : SharedOf) (out : Taking) : Type 0 where
  pub text : List ℕ
  pub report : IsReportIn shared text
  pub taken : TookPart out text

-- what the sink took where a report ended so
abbrev pub Reports : SharedOf → Taking → Result (Unit {0}) ReportFault → Type 0
Reports shared out (Ok _) = WroteTableReport shared out
Reports shared out (Err ReportFault.Output) = BeganTableReport shared out
Reports shared out (Err (ReportFault.NoMemory refused)) = TookNothing out
