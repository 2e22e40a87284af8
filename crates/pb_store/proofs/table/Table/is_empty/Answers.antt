use Rattle.std.proofs.Common.{arith}
use Rattle.pb_store.proofs.Joined.{is_nothing-joined}
use Rattle.pb_store.proofs.table.Table.is_empty.Goals as goal

pub returns : goal.returns
returns g c = grind (arith, is_nothing-joined, c.are_empty.ensures, g.T.Tablet.contents, c.deref.ensures.value, c.self.inside.parts.items, c.self.invariant.tiled, c.self.view_is)
