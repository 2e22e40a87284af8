use Rattle.std.proofs.Common.{◌<◌, ◌+◌, subst, arith, length}
use Rattle.pb_memtablet.specs.Places.{IsCut}
use Rattle.pb_memtablet.proofs.Spots.{true_holds}
use Rattle.pb_memtablet.proofs.Pieces.{home_sorted, first-in_home, first-in_next, first-none, chunk_is_filled}
use Rattle.pb_memtablet.proofs.chunks.first_above.Goals as goal
use Rattle.pb_base.proofs.Logic.{test_is_true}

pub place_above-place-requires : goal.place_above-place-requires
place_above-place-requires g c =
    rw c.deref.ensures.value (test_is_true _ (home_sorted g.K.Ord.cmp g.met.K.Ord.total c.args.chunks.now c.args.key.now c.noted_home-home.result c.index-chunks-home.result c.noted_home-home.ensures.home c.index-chunks-home.is (true_holds _ c.requires.sorted)))

pub returns-then-place-len : goal.returns-then-place-len
returns-then-place-len g c = grind (arith, first-in_home, true_holds, g.K.Ord.cmp, g.met.K.Ord.total, c.args.chunks.now, c.args.key.now, c.noted_home-home.result, c.index-chunks-home.result, c.noted_home-home.ensures.home, c.index-chunks-home.is, c.requires.sorted, c.place_above-place.result, c.index.result.now, c.deref.ensures.value, c.place_above-place.ensures.cut, c.index.ensures)

pub returns-then-home-chunks : goal.returns-then-home-chunks
returns-then-home-chunks g c =
    let m = c.index-chunks-home.result in
    let next = c.index-chunks-home-then-home-chunks.result in
    let some : 0 < length next.items = rw c.index-chunks-home-then-home-chunks.is (chunk_is_filled g.K.Ord.cmp g.met.K.Ord.total _ (c.requires.each (c.noted_home-home.result + 1) next c.if-home-chunks.true)) in
    first-in_next g.K.Ord.cmp g.met.K.Ord.total c.args.chunks.now c.args.key.now c.noted_home-home.result m c.noted_home-home.ensures.home c.index-chunks-home.is (true_holds _ c.requires.sorted)
    c.place_above-place.result (c.noted_home-home.result + 1) next c.index-then-home-chunks.result.now
    (subst (λ es. IsCut g.K.Ord.cmp es c.args.key.now c.place_above-place.result) c.deref.ensures.value c.place_above-place.ensures.cut)
    (omega (arith, m.ok.0)) (omega arith) c.if-home-chunks.true c.index-chunks-home-then-home-chunks.is some c.index-then-home-chunks.ensures

pub returns-else-home-chunks : goal.returns-else-home-chunks
returns-else-home-chunks g c = grind (arith, first-none, true_holds, c.index-chunks-home.result, g.K.Ord.cmp, g.met.K.Ord.total, c.args.chunks.now, c.args.key.now, c.noted_home-home.result, c.noted_home-home.ensures.home, c.index-chunks-home.is, c.requires.sorted, c.place_above-place.result, c.deref.ensures.value, c.place_above-place.ensures.cut)
