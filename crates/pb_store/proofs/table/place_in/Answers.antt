use Rattle.std.proofs.Common.{◌≡◌, ◌<◌, length, get_or, arith}
use Rattle.pb_store.specs.Tiles.{tiles_of}
use Rattle.pb_store.proofs.Routing.{first_at, first_at-tiles_of, length-tiles_of, none_between, one_more_above, place_from_firsts}
use Rattle.pb_store.proofs.table.place_in.Goals as goal
use Rattle.pb_store.proofs.table.place_in.Goals.{then-parts-i, else-parts-i}

pub loop-i-preserved : goal.loop-i-preserved
loop-i-preserved g c =
    let lt : c.loop-i.i < length c.args.parts.now = omega arith in
    let first : first_at (tiles_of g.T.Tablet.contents c.args.parts.now) c.loop-i.i ≡ (get_or c.args.parts.now c.loop-i.i c.index-parts-i.result).0.0 =
    first_at-tiles_of g.T.Tablet.contents c.args.parts.now c.loop-i.i c.index-parts-i.result lt in
    grind (arith, first_at, then-parts-i, none_between, else-parts-i, one_more_above, c.loop-i.i, c.args.parts.now, g.T.Tablet.contents, c.if-parts-i.branch, c.loop-i.invariant.nonempty, c.loop-i.invariant.low, c.loop-i.invariant.above)

pub returns-clause-place : goal.returns-clause-place
returns-clause-place g c = grind (arith, length-tiles_of, place_from_firsts, g.T.Tablet.contents, c.args.parts.now, c.loop-i.i, c.loop-i.invariant.low, c.loop-i.place, c.loop-i.invariant.above)
