-- The report of a table, by the timestamp that it is of. `pb_script` defines it by the table's clock, which no reader of a
-- journal sees; here it is defined by the journal alone, given how the table was opened.
use Rattle.std.specs.Prelude.{◌↔◌, ℕ, List}
use Rattle.std.specs.FinMap as finite
use Rattle.law_texts.specs.Words.{lock_count, timestamps, IsLastGiven, SharedOf, IsLegalTable, Tallies, IsReportOf, IsSeenAt, AreTallies, IsReportIn}

-- What the snapshot at a timestamp has of each data cell, how many runs of each observer are committed, and the marks and
-- locks that stand.
pub record IsReportAt (at : ℕ) (s : SharedOf) (text : List ℕ) : Type 0 where
  pub runs : Tallies
  pub tallied : AreTallies s.state.observers s.journal 0 s.state.observers runs
  pub reported :
      IsReportOf (IsSeenAt s.state.observers s.journal at) runs (finite.len s.state.marks) (lock_count s.state.entries) text

-- a table's report is that at the greatest timestamp that its journal gave out
abbrev pub ReportsAreOfTheLastGiven : Type 0
ReportsAreOfTheLastGiven =
    (s : SharedOf) (text : List ℕ) (last : ℕ) → IsLegalTable s → IsLastGiven s.opened (timestamps s.journal) last →
    IsReportIn s text ↔ IsReportAt last s text
