use Rattle.std.proofs.Common.{◌≡◌, drop}
use Rattle.pb_store.specs.Tiles.{tiles_of, rise_from_zero, rise}
use Rattle.pb_store.proofs.table.rises.Given as goal

abbrev pub invariant-loop-i : goal.invariant-loop-i
invariant-loop-i g l = rise_from_zero (tiles_of g.T.Tablet.contents l.parts) ≡ rise l.low (tiles_of g.T.Tablet.contents (drop l.i l.parts))
