use Rattle.std.proofs.Common.{arith}
use Rattle.pb_memtablet.proofs.Spots.{true_holds}
use Rattle.pb_memtablet.proofs.Pieces.{home_sorted, last-in_home, last-none}
use Rattle.pb_memtablet.proofs.chunks.last_up_to.Goals as goal
use Rattle.pb_base.proofs.Logic.{test_is_true}

pub place_above-above-requires : goal.place_above-above-requires
place_above-above-requires g c =
    rw c.deref.ensures.value (test_is_true _ (home_sorted g.K.Ord.cmp g.met.K.Ord.total c.args.chunks.now c.args.key.now c.noted_home.result c.index-chunks-noted_home.result c.noted_home.ensures.home c.index-chunks-noted_home.is (true_holds _ c.requires.sorted)))

pub returns-then-above-eq0 : goal.returns-then-above-eq0
returns-then-above-eq0 g c = grind (arith, last-none, true_holds, c.index-chunks-noted_home.result, g.K.Ord.cmp, g.met.K.Ord.total, c.args.chunks.now, c.args.key.now, c.noted_home.result, c.noted_home.ensures.home, c.index-chunks-noted_home.is, c.requires.sorted, c.place_above-above.result, c.deref.ensures.value, c.place_above-above.ensures.cut, c.if-above-eq0.true, c.noted_home.ensures.started)

pub returns-else-above-eq0 : goal.returns-else-above-eq0
returns-else-above-eq0 g c = grind (arith, last-in_home, true_holds, c.index-chunks-noted_home.result, c.place_above-above.result, g.K.Ord.cmp, g.met.K.Ord.total, c.args.chunks.now, c.args.key.now, c.noted_home.result, c.noted_home.ensures.home, c.index-chunks-noted_home.is, c.requires.sorted, c.index.result.now, c.deref.ensures.value, c.place_above-above.ensures.cut, c.index.ensures)
