use Rattle.std.proofs.Common.{◌∙◌, sym, arith}
use Rattle.pb_store.proofs.Following.{next_from_start, next_past_all, next_here, next_later}
use Rattle.pb_store.proofs.table.entry_after.Goals as goal

pub loop-i-init : goal.loop-i-init
loop-i-init g c = grind (arith, next_from_start, c.start_in-i.ensures.within, g.T.Tablet.contents, c.args.parts.now, c.args.after.now, c.start_in-i.result, c.requires.tiled, c.cell_of.ensures, c.start_in-i.ensures.place)

pub returns-in-Some : goal.returns-in-Some
returns-in-Some g c = grind (arith, next_here, c.loop-i.invariant.left, g.T.Tablet.contents, c.args.parts.now, c.args.after.now, c.loop-i.i, c.index-parts-i.result, c.in-Some.entry, c.in-Some.ensures.entry)

pub loop-i-preserved : goal.loop-i-preserved
loop-i-preserved g c = grind (arith, next_later, c.loop-i.invariant.left, g.T.Tablet.contents, c.args.parts.now, c.args.after.now, c.loop-i.i, c.index-parts-i.result, c.in_default.ensures.entry)

pub returns : goal.returns
returns g c = sym (c.loop-i.invariant.left ∙ next_past_all g.T.Tablet.contents c.args.parts.now c.args.after.now c.loop-i.i (omega arith))
