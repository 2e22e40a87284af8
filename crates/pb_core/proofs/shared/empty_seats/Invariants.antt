use Rattle.pb_core.specs.Calls.{IsFresh}
use Rattle.pb_core.proofs.shared.empty_seats.Given as goal

abbrev pub invariant-loop-number : goal.invariant-loop-number
invariant-loop-number l = IsFresh l.number l.seats.items
