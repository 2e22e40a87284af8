use Rattle.std.proofs.Common.{sym}
use Rattle.pb_memtablet.proofs.Spots.{true_holds, find-found, find-gap}
use Rattle.pb_memtablet.proofs.sorted.look_up.Goals as goal

pub returns-in-Ok : goal.returns-in-Ok
returns-in-Ok g c = sym (find-found g.met.K.Ord.total c.args.entries.now c.args.key.now c.in-Ok.i c.index-entries-i.result c.in-Ok.ensures.found)

pub returns-in-Err : goal.returns-in-Err
returns-in-Err g c = sym (find-gap g.met.K.Ord.total c.args.entries.now c.args.key.now c.in-Err.field-0 (true_holds _ c.requires) c.in-Err.ensures.gap)
