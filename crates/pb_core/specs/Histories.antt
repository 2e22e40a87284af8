-- What holds of a table's journal and state (OSDI 2010, sections 2.2 to 2.4): the laws of legal journals in three
-- groups, as `Shared::journal` promises them.
use Rattle.pb_core.specs.Words.{IsLegal, TellsTimestamps, TellsCommitOrder, TellsSnapshots, TellsWriters, TellsRuns, TellsScripts, TellsMarks, TellsOneHandler, TellsHandlers}
use Rattle.pb_core.specs.Calls.{SharedOf}

-- the journal is legal, and leads to the state
abbrev pub IsLegalTable : SharedOf → Type 0
IsLegalTable s = IsLegal s.state.observers s.state.seats s.opened s.journal s.state

-- the committed transactions are a legal snapshot history
pub record IsSnapshotHistory (s : SharedOf) : Type 0 where
  pub timestamps : TellsTimestamps s.opened s.journal s.state
  pub order : TellsCommitOrder s.journal s.state
  pub reads : TellsSnapshots s.journal s.state
  pub writers : TellsWriters s.journal s.state
  pub runs : TellsRuns s.journal s.state
  pub scripts : TellsScripts s.journal s.state

-- each committed change is handled by at most one committed run of each observer of its column, and by one when all is quiet
pub record HandlesOnce (s : SharedOf) : Type 0 where
  pub behind : TellsMarks s.state
  pub most : TellsOneHandler s.journal s.state
  pub quiet : TellsHandlers s.journal s.state
