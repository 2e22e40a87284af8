-- What a transaction keeps of what it has declared: the writes that its form stands for.
use Rattle.std.specs.Prelude.{◌<◌, List, [], ◌∷◌, Option, None, slice_get, vec_len, vec_capacity}
use Rattle.pb_state.specs.Words.{Cell, Content, Writes, Declared, batch_in, Work, ObserverOf, acknowledgment_at}
use Rattle.pb_state.specs.declared.cells.Cells.{Cells}

-- what a run's program writes
abbrev pub run_writes : Declared → Writes
run_writes (Declared.Script batch) = []
run_writes (Declared.Run o f) = f.writes

-- a run's acknowledgment comes first, since that is its primary
abbrev pub cells_in : Cells → Writes
cells_in Cells.Nothing = []
cells_in (Cells.Batch what) = batch_in what
cells_in (Cells.Run x s what) = (x, Content.Stamp s) ∷ run_writes what
cells_in (Cells.Left list) = list.items

-- they are a list of their own, with room for one more
abbrev pub HasCellRoom : Cells → Type 0
HasCellRoom (Cells.Left list) = vec_len list < vec_capacity list
HasCellRoom _ = ⊥

-- the acknowledgment of a run, where there is its observer
abbrev pub acknowledgment_by : List ObserverOf → Work → Option Cell
acknowledgment_by observers Work.Script = None
acknowledgment_by observers (Work.Run o row) = acknowledgment_at (slice_get observers o) o row
