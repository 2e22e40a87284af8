use Rattle.std.proofs.Common.{arith}
use Rattle.pb_store.proofs.Reading.{newest_there}
use Rattle.pb_store.proofs.table.Table.newest.Goals as goal

pub returns : goal.returns
returns g c = grind (arith, newest_there, c.args.cell, c.args.sort, c.args.high, c.newest.result, c.self.view_is, g.T.Tablet.contents, c.self.inside.parts.items, c.deref.result.now, c.place_in-i.result, c.row.result, c.index.result.now, c.deref.ensures.value, c.place_in-i.ensures.within, c.place_in-i.ensures.place, c.index.ensures, c.self.invariant.tiled, c.row.ensures, c.newest.ensures)
