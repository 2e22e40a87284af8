use Rattle.std.proofs.Common.{arith}
use Rattle.std.specs.FinMap as map
use Rattle.pb_store.proofs.Joined.{entries-joined}
use Rattle.pb_store.proofs.table.Table.len.Goals as goal

pub returns : goal.returns
returns g c = grind (arith, entries-joined, map.len-entries, c.count_in.ensures, g.T.Tablet.contents, c.deref.ensures.value, c.self.inside.parts.items, c.self.invariant.tiled, c.self.view_is)
