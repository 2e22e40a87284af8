use Rattle.std.proofs.Common.{arith}
use Rattle.pb_store.proofs.Reading.{get_there}
use Rattle.pb_store.proofs.table.Table.get.Goals as goal

pub returns-clause-item : goal.returns-clause-item
returns-clause-item g c = grind (arith, get_there, c.get.ensures.item, g.T.Tablet.contents, c.self.inside.parts.items, c.deref.result.now, c.place_in-i.result, c.row.result, c.index.result.now, c.deref.ensures.value, c.place_in-i.ensures.within, c.place_in-i.ensures.place, c.index.ensures, c.self.invariant.tiled, c.args.slot, c.row.ensures, c.self.view_is)
