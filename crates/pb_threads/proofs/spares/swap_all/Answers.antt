use Rattle.std.proofs.Common.{arith}
use Rattle.pb_threads.proofs.Swapping.{swaps_next}
use Rattle.pb_threads.proofs.spares.swap_all.Goals as goal

pub loop-place-preserved : goal.loop-place-preserved
loop-place-preserved g c = grind (arith, swaps_next, g.J.Opening.opening.places, c.in-Some.place, c.in-Some.spare, c.loop-place.spares.items, c.pop.new.self.items, c.or-refusal.ensures, g.T.Tablet.contents, c.args.spares.now.items, c.loop-place.refusal, c.swap_in-refused.result, c.loop-place.invariant, c.swap_in-refused.ensures)
