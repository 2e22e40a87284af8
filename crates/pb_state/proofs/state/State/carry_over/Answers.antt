use Rattle.std.proofs.Common.{OnOk, subst}
use Rattle.pb_state.specs.Words.{StateOf}
use Rattle.pb_state.specs.CarriedOver.{AreInOrder}
use Rattle.pb_state.proofs.state.State.carry_over.Goals as goal

pub returns-clause-ordered : goal.returns-clause-ordered
returns-clause-ordered g c = subst (λ (z : StateOf). OnOk c.carry_over.result (AreInOrder z.observers c.args.last.0 c.args.cells.now)) c.self.view_is c.carry_over.ensures.ordered
