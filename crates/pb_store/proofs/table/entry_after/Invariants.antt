use Rattle.std.proofs.Common.{◌≡◌, ◌≤◌, length, slice_get}
use Rattle.pb_store.specs.Contents.{entries_after}
use Rattle.pb_store.specs.Tiles.{tiles_of, all_entries}
use Rattle.pb_store.proofs.Following.{next_from}
use Rattle.pb_store.proofs.table.entry_after.Given as goal

abbrev pub invariant-loop-i : goal.invariant-loop-i
invariant-loop-i g l = record {
  within : l.i ≤ length l.parts;
  left : slice_get (entries_after l.after (all_entries (tiles_of g.T.Tablet.contents l.parts))) 0 ≡ next_from g.T.Tablet.contents l.parts l.after l.i;
}
