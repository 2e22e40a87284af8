use Rattle.std.proofs.Common.{◌≡◌, drop, slice_get}
use Rattle.pb_store.specs.Tiles.{tiles_of, all_entries}
use Rattle.pb_store.proofs.table.entry_in.Given as goal

abbrev pub invariant-loop-part : goal.invariant-loop-part
invariant-loop-part g l =
    slice_get (all_entries (tiles_of g.T.Tablet.contents l.parts)) l.place ≡ slice_get (all_entries (tiles_of g.T.Tablet.contents (drop l.part-index l.parts))) l.rest
