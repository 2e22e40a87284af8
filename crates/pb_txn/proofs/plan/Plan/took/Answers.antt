use Rattle.std.proofs.Common.{arith}
use Rattle.pb_txn.proofs.plan.Plan.took.Goals as goal

pub invariant_of-self : goal.invariant_of-self
invariant_of-self c = grind arith
