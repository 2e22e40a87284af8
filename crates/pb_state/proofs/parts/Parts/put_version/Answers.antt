use Rattle.std.proofs.Common.{arith, sym, subst}
use Rattle.pb_state.specs.Words.{StateOf}
use Rattle.pb_state.specs.CarriedOver.{IsOrBeganLast}
use Rattle.pb_state.proofs.Outcomes.{err_always}
use Rattle.pb_state.proofs.Rising.{put_again}
use Rattle.pb_state.proofs.parts.Parts.put_version.Goals as goal

pub add_with-requires-clause-last : goal.add_with-requires-clause-last
add_with-requires-clause-last g c =
    subst (λ (z : StateOf). IsOrBeganLast z.transactions c.args.version.now.start.0) (sym c.self.view_is) c.requires c.in-None.ensures

pub returns-in-Some-clause-err : goal.returns-in-Some-clause-err
returns-in-Some-clause-err g c =
    grind (arith, put_again, err_always, c.self.inside.transactions, c.add_cell.new.self, c.at_mut-left.ensures.there, c.add_cell.ensures.err, c.add_cell.result)
