-- What the reads of acknowledgments of a legal journal return (OSDI 2010, section 2.4).
use Rattle.std.specs.Prelude.{ℕ, ◌≤◌, List}
use Rattle.pb_history.specs.Words.{Cell, Row, Ts, Step, Answer, acknowledged_in}
use Rattle.pb_history.specs.declared.entry.Entry.{Entry}
use Rattle.pb_history.specs.History.{IsEntry}

-- the acknowledged timestamp that a read returns is at most the start of its transaction
abbrev pub TellsAcknowledged : List Entry → Type 0
TellsAcknowledged journal = (seat : ℕ) (s : Ts) (o : ℕ) (row : Row) (column : ℕ) (answer : Answer) → IsEntry journal seat (Step.Read s (Cell.Ack o row column)) answer → (acknowledged_in answer).0 ≤ s.0
