-- The committed writes of a table, as they are gathered: entry by entry. The functions of src/output.rt cite these,
-- and a lemma says that they are the writes of the history.
use Rattle.std.specs.Prelude.{List, [], map, Option, Some}
use Rattle.pb_script.specs.Words.{Writes, Ts, Cell, Content, Declared, Step, Answer, Phase, StateOf, phase_in, Entry}
use Rattle.pb_script.specs.declared.reports.newest.Put.{Put}

-- a write of a transaction with this commit
abbrev pub put_by : Ts → Cell × Content → Put
put_by commit w = record { cell = w.0; commit = commit; content = w.1 }

-- the writes of a transaction, if it is committed
abbrev pub if_committed : Option Phase → List (Cell × Content) → List Put
if_committed (Some (Phase.Committed c)) ws = map (put_by c) ws
if_committed _ ws = []

-- what a declaration writes to data cells
abbrev pub written_in : Declared → Writes
written_in (Declared.Script batch) = batch
written_in (Declared.Run o f) = f.writes

-- the writes that an entry declared, if they are committed
abbrev pub puts_of_entry : StateOf → Step → Answer → List Put
puts_of_entry state (Step.Declare start what) Answer.Done = if_committed (phase_in state start.0) (written_in what)
puts_of_entry state _ _ = []

-- what an entry adds to the gathered writes; none but a declaration that was answered adds any
abbrev pub puts_by : StateOf → Entry → List Put
puts_by state e = puts_of_entry state e.step e.answer
