use Rattle.pb_threads.proofs.Refusing.{may_refuse}
use Rattle.pb_threads.proofs.desk.call.Goals as goal

pub returns-clause-refused : goal.returns-clause-refused
returns-clause-refused g c = may_refuse g.C.Callee.opening (g.C.Callee.table c.args.shared.now) c.args.seat.now.number c.args.step.now c.take.result c.take.ensures.opened c.take.ensures.legal c.take.ensures.refused c.take.ensures.allowed
