use Rattle.std.proofs.Common.{◌<◌, ◌≤◌, length}
use Rattle.pb_store.specs.Tiles.{tiles_of}
use Rattle.pb_store.proofs.Routing.{first_at, FirstsAbove}
use Rattle.pb_store.proofs.table.place_in.Given as goal

abbrev pub invariant-loop-i : goal.invariant-loop-i
invariant-loop-i g l =
    let tiles = tiles_of g.T.Tablet.contents l.parts in
    record {
      nonempty : 0 < length l.parts;
      within : l.place < l.i;
      low : first_at tiles l.place ≤ l.row.0;
      above : FirstsAbove tiles l.row.0 l.place l.i;
    }
