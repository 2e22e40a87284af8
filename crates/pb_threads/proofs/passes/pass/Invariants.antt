use Rattle.pb_threads.specs.Gains.{Gains}
use Rattle.pb_passes.specs.Passes.{IsWalk}
use Rattle.pb_threads.proofs.passes.pass.Given as goal

abbrev pub invariant-loop-turn : goal.invariant-loop-turn
invariant-loop-turn g l = Gains (λ said. IsWalk l.fn.observers said l.last) l.fn.seat l.seat
