use Rattle.std.proofs.Common.{◌≡◌, ◌+◌, false, rules, arith}
use Rattle.pb_memtablet.specs.Chunks.{starts_by}
use Rattle.pb_memtablet.proofs.Spots.{true_holds}
use Rattle.pb_memtablet.proofs.Pieces.{above_start}
use Rattle.pb_memtablet.proofs.chunks.is_below_next.Goals as goal

pub returns : goal.returns
returns g c t =
    let starts : starts_by g.K.Ord.cmp c.args.key.now c.index-chunks-place.result.items ≡ false = search rules in
    above_start g.K.Ord.cmp g.met.K.Ord.total c.args.chunks.now c.args.key.now (c.args.place + 1) c.index-chunks-place.result (omega arith) c.index-chunks-place.is (true_holds _ c.requires.chunks.sorted) c.requires.chunks.each starts
