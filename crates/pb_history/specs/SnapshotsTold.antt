-- What the reads of a legal journal return of its history (OSDI 2010, section 2.2).
use Rattle.std.specs.Prelude.{ℕ, ◌≤◌, List}
use Rattle.pb_history.specs.Words.{Cell, Ts, Step, Answer, ObserverOf, StateOf}
use Rattle.pb_history.specs.declared.entry.Entry.{Entry}
use Rattle.pb_history.specs.History.{IsEntry, IsSnapshot, NoSnapshot}

-- a read of x in the snapshot at s returns the write with the greatest commit in that snapshot, or that there is none
abbrev pub TellsSnapshot : List ObserverOf → List Entry → ℕ → Cell → Answer → Type 0
TellsSnapshot observers journal s x (Answer.Found start commit content) = IsSnapshot observers journal s x start.0 commit.0 content
TellsSnapshot observers journal s x Answer.Absent = NoSnapshot observers journal s x
TellsSnapshot observers journal s x _ = Unit {0}

-- Every read of the journal, of any transaction, committed or not, returns its snapshot of the whole history, including the
-- transactions that were committed after the read.
pub record TellsSnapshots (journal : List Entry) (state : StateOf) : Type 0 where
  pub read : (seat : ℕ) (s : Ts) (x : Cell) (answer : Answer) → IsEntry journal seat (Step.Read s x) answer → TellsSnapshot state.observers journal s.0 x answer
  -- and so does every read at a timestamp
  pub read_at : (seat : ℕ) (s : Ts) (x : Cell) (t : Ts) (answer : Answer) → IsEntry journal seat (Step.ReadAt s x t) answer → TellsSnapshot state.observers journal t.0 x answer
  -- which is none above its transaction's start
  pub earlier : (seat : ℕ) (s : Ts) (x : Cell) (t : Ts) (answer : Answer) → IsEntry journal seat (Step.ReadAt s x t) answer → t.0 ≤ s.0
