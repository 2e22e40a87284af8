use Rattle.std.proofs.Common.{vec_len}
use Rattle.pb_threads.proofs.Swapping.{IsOnTheWay}
use Rattle.pb_threads.proofs.spares.swap_all.Given as goal

abbrev pub invariant-loop-place : goal.invariant-loop-place
invariant-loop-place g l = IsOnTheWay g.J.Opening.opening.places g.T.Tablet.contents l.fn.spares.items l.spares.items l.refusal

abbrev pub decreases-loop-place : goal.decreases-loop-place
decreases-loop-place g l = vec_len l.spares
