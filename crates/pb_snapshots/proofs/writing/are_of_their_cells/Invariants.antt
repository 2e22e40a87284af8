use Rattle.std.proofs.Common.{◌≡◌, drop}
use Rattle.pb_snapshots.specs.Snapshot.{are_of_their_cells}
use Rattle.pb_snapshots.proofs.writing.are_of_their_cells.Given as goal

-- what is left decides for all
abbrev pub invariant-loop-version : goal.invariant-loop-version
invariant-loop-version l = are_of_their_cells (drop l.version-index l.cells) ≡ are_of_their_cells l.cells
