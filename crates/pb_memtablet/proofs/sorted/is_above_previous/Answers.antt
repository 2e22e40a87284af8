use Rattle.std.proofs.Common.{◌-◌, arith, Greater}
use Rattle.pb_memtablet.proofs.Spots.{is_greater, as_read}
use Rattle.pb_memtablet.proofs.sorted.is_above_previous.Goals as goal

pub returns : goal.returns
returns g c t some d =
    as_read g.met.K.Ord.total c.args.entries.now (g.K.Ord.cmp c.args.key.now) (c.args.place - 1) c.index-entries-place.result c.cmp.result Greater (omega (arith, c.requires, some)) c.index-entries-place.is c.cmp.ensures
    (is_greater c.cmp.result c.is_gt.result c.is_gt.ensures t) d
