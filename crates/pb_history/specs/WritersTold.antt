-- What the history of a legal journal shows of two transactions that write one cell (OSDI 2010, section 2.2).
use Rattle.std.specs.Prelude.{◌≢◌, ◌<◌, ◌⊎◌, List}
use Rattle.pb_history.specs.Words.{Cell, Content, StateOf}
use Rattle.pb_history.specs.declared.entry.Entry.{Entry}
use Rattle.pb_history.specs.History.{Member, InHistory, WritesTo}

-- one was committed before the other began
abbrev pub DoNotOverlap : Member → Member → Type 0
DoNotOverlap m n = (m.commit < n.start) ⊎ (n.commit < m.start)

-- no two committed transactions that write one cell overlap
pub record TellsWriters (journal : List Entry) (state : StateOf) : Type 0 where
  pub apart : (m n : Member) → InHistory state.observers journal m → InHistory state.observers journal n → m.start ≢ n.start → (x : Cell) (j k : Content) → WritesTo m x j → WritesTo n x k → DoNotOverlap m n
