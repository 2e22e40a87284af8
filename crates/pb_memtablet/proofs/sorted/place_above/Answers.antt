use Rattle.std.proofs.Common.{add-one}
use Rattle.pb_memtablet.proofs.Spots.{true_holds, cut_by_found, cut_by_gap}
use Rattle.pb_memtablet.proofs.sorted.place_above.Goals as goal

pub returns-in-Ok-clause-cut : goal.returns-in-Ok-clause-cut
returns-in-Ok-clause-cut g c = rw add-one (cut_by_found g.met.K.Ord.total c.args.entries.now c.args.key.now c.in-Ok.i (true_holds _ c.requires) c.in-Ok.ensures.found)

pub returns-in-Err-clause-cut : goal.returns-in-Err-clause-cut
returns-in-Err-clause-cut g c = cut_by_gap g.met.K.Ord.total c.args.entries.now c.args.key.now c.in-Err.i c.in-Err.ensures.gap
