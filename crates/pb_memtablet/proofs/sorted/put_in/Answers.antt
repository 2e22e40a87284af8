use Rattle.std.proofs.Common.{arith}
use Rattle.pb_memtablet.proofs.Spots.{put-found, put-inserted}
use Rattle.pb_memtablet.proofs.sorted.put_in.Goals as goal

pub returns-in-Ok-clause-items : goal.returns-in-Ok-clause-items
returns-in-Ok-clause-items g c = grind (arith, put-found, g.K.Ord.cmp, c.args.key, c.in-Ok.i, c.deref.ensures.value, c.in-Ok.ensures.found, g.met.K.Ord.total, c.args.entries.now.items, c.args.value, c.index_mut.result.now, c.index_mut.ensures.value)

pub returns-in-Err-clause-items : goal.returns-in-Err-clause-items
returns-in-Err-clause-items g c = grind (arith, put-inserted, g.K.Ord.cmp, c.args.key, c.in-Err.i, c.deref.ensures.value, c.in-Err.ensures.gap, g.met.K.Ord.total, c.args.entries.now.items, c.insert.new.self.items, c.args.value, c.insert.result, c.insert.ensures.items, c.unwrap.ensures)
