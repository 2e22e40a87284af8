use Rattle.std.proofs.Common.{◌≤◌, length}
use Rattle.pb_store.specs.Tiles.{tiles_of}
use Rattle.pb_store.proofs.Marked.{NonePassed}
use Rattle.pb_store.proofs.table.mark_in.Given as goal

abbrev pub invariant-loop-i : goal.invariant-loop-i
invariant-loop-i g l = record {
  within : l.i ≤ length l.parts;
  passed : NonePassed (tiles_of g.T.Tablet.contents l.parts) l.after l.i;
}
