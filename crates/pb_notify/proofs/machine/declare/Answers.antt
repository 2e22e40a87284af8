use Rattle.std.proofs.Common.{arith, ◌≡◌, sym, subst}
use Rattle.pb_notify.specs.Words.{IsAtSlot}
use Rattle.pb_notify.specs.Machines.{exit_at, ExitLeaves}
use Rattle.pb_notify.proofs.machine.declare.Goals as goal
use Rattle.pb_notify.proofs.machine.declare.Goals.{in-Ok+in-Err-new+in-Run, in-Err}

pub invariant_of-result : goal.invariant_of-result
invariant_of-result c =
    let same : c.match-new.left.0 ≡ c.args.left = grind (arith, in-Ok+in-Err-new+in-Run, in-Err, c.match-new.branch) in
    subst (λ f. ExitLeaves (exit_at f c.args.taken) f × IsAtSlot (exit_at f c.args.taken) c.args.slot) (sym same) (c.requires.leaves, c.requires.at)
