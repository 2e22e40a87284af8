use Rattle.std.proofs.Common.{arith}
use Rattle.pb_store.proofs.Routing.{some_tile, length-tiles_of}
use Rattle.pb_store.proofs.table.Table.places.Goals as goal

pub returns-clause-some : goal.returns-clause-some
returns-clause-some g c = grind (arith, length-tiles_of, some_tile, g.T.Tablet.contents, c.self.inside.parts.items, c.len.ensures, c.self.invariant)
