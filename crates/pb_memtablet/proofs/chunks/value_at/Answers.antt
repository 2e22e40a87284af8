use Rattle.std.proofs.Common.{arith}
use Rattle.pb_memtablet.proofs.Spots.{true_holds}
use Rattle.pb_memtablet.proofs.Pieces.{home_sorted, find-in_home}
use Rattle.pb_memtablet.proofs.chunks.value_at.Goals as goal
use Rattle.pb_base.proofs.Logic.{test_is_true}

pub look_up-requires : goal.look_up-requires
look_up-requires g c =
    rw c.deref.ensures.value (test_is_true _ (home_sorted g.K.Ord.cmp g.met.K.Ord.total c.args.chunks.now c.args.key.now c.noted_home.result c.index-chunks-noted_home.result c.noted_home.ensures.home c.index-chunks-noted_home.is (true_holds _ c.requires.sorted)))

pub returns : goal.returns
returns g c = grind (arith, find-in_home, c.look_up.ensures, g.K.Ord.cmp, c.args.key.now, c.deref.ensures.value, g.met.K.Ord.total, c.args.chunks.now, c.noted_home.result, c.index-chunks-noted_home.result, c.noted_home.ensures.home, c.index-chunks-noted_home.is)
