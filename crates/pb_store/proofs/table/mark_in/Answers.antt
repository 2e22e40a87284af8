use Rattle.std.proofs.Common.{◌≡◌, sym, subst, arith, get_or, Some}
use Rattle.pb_store.specs.Contents.{Contents, IsNextMark}
use Rattle.pb_store.specs.Tiles.{tiles_of}
use Rattle.pb_store.proofs.Routing.{tile_at, length-tiles_of, tile_at-tiles_of}
use Rattle.pb_store.proofs.Marked.{none_passed, one_more_passed, no_next, next_there}
use Rattle.pb_store.proofs.table.mark_in.Goals as goal

pub loop-i-init : goal.loop-i-init
loop-i-init g c = grind (arith, length-tiles_of, none_passed, g.T.Tablet.contents, c.args.parts.now, c.start_in-i.ensures.within, c.requires.tiled, c.args.after.now, c.start_in-i.result, c.start_in-i.ensures.place)

pub returns-in-Some : goal.returns-in-Some
returns-in-Some g c =
    let size = length-tiles_of g.T.Tablet.contents c.args.parts.now in
    let here : tile_at (tiles_of g.T.Tablet.contents c.args.parts.now) c.loop-i.i ≡ g.T.Tablet.contents (get_or c.args.parts.now c.loop-i.i c.index-parts-i.result).1 =
    tile_at-tiles_of g.T.Tablet.contents c.args.parts.now c.loop-i.i c.index-parts-i.result (omega arith) in
    next_there (tiles_of g.T.Tablet.contents c.args.parts.now) c.requires.tiled c.args.after.now c.loop-i.i c.in-Some.cell (omega (arith, size)) c.loop-i.invariant.passed
    (subst (λ (k : Contents). IsNextMark k.marks c.args.after.now (Some c.in-Some.cell)) (sym here) c.in-Some.ensures)

pub loop-i-preserved : goal.loop-i-preserved
loop-i-preserved g c =
    let here : tile_at (tiles_of g.T.Tablet.contents c.args.parts.now) c.loop-i.i ≡ g.T.Tablet.contents (get_or c.args.parts.now c.loop-i.i c.index-parts-i.result).1 =
    tile_at-tiles_of g.T.Tablet.contents c.args.parts.now c.loop-i.i c.index-parts-i.result (omega arith) in
    record {
      within = omega arith;
      passed = grind (arith, one_more_passed, g.T.Tablet.contents, c.args.parts.now, c.loop-i.i, c.args.after.now, c.loop-i.invariant.passed, c.in_default.ensures);
    }

pub returns : goal.returns
returns g c = grind (arith, length-tiles_of, no_next, g.T.Tablet.contents, c.args.parts.now, c.loop-i.i, c.loop-i.invariant.within, c.requires.tiled, c.args.after.now, c.loop-i.invariant.passed)
