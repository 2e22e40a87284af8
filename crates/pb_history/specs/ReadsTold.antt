-- What the reads of a legal journal return.
use Rattle.std.specs.Prelude.{◌≡◌, ℕ, List, ◌∷◌, ◌++◌}
use Rattle.pb_history.specs.Words.{Step, Answer, StateOf, opening, ObserverOf, IsVersion, NoVersion}
use Rattle.pb_history.specs.declared.entry.Entry.{Entry}
use Rattle.pb_history.specs.Journals.{JournalLeads}

-- a read returns the cell's newest version up to its start, or up to the timestamp that it names, or that there is none
abbrev pub TellsVersion : StateOf → Step → Answer → Type 0
TellsVersion state (Step.Read s x) (Answer.Found start commit content) = IsVersion state.entries x s.0 (record { start = start; commit = commit; content = content })
TellsVersion state (Step.Read s x) Answer.Absent = NoVersion state.entries x s.0
TellsVersion state (Step.ReadAt s x t) (Answer.Found start commit content) = IsVersion state.entries x t.0 (record { start = start; commit = commit; content = content })
TellsVersion state (Step.ReadAt s x t) Answer.Absent = NoVersion state.entries x t.0
TellsVersion state _ _ = Unit {0}

-- the entries before an entry lead to a state, and if the entry is a read, it returns what that state has
pub record TellsAt (observers : List ObserverOf) (seats clock : ℕ) (before : List Entry) (e : Entry) : Type 0 where
  pub state : StateOf
  pub run : JournalLeads (opening observers seats clock) before state
  pub tells : TellsVersion state e.step e.answer

-- wherever it stands in the journal
pub record TellsReads (observers : List ObserverOf) (seats clock : ℕ) (journal : List Entry) : Type 0 where
  pub at : (before : List Entry) (e : Entry) (after : List Entry) → journal ≡ before ++ e ∷ after → TellsAt observers seats clock before e
