use Rattle.std.proofs.Common.{arith}
use Rattle.pb_store.proofs.Joined.{entries-joined}
use Rattle.pb_store.proofs.table.Table.at.Goals as goal

pub returns : goal.returns
returns g c = grind (arith, entries-joined, c.entry_in.ensures, g.T.Tablet.contents, c.args.place, c.deref.ensures.value, c.self.inside.parts.items, c.self.invariant.tiled, c.self.view_is)
