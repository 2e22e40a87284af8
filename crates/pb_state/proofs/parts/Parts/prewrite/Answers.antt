use Rattle.std.proofs.Common.{arith}
use Rattle.pb_state.proofs.Outcomes.{err_always}
use Rattle.pb_state.proofs.Rising.{put_again}
use Rattle.pb_state.proofs.parts.Parts.prewrite.Goals as goal

pub returns-in_err-prewrite-clause-same : goal.returns-in_err-prewrite-clause-same
returns-in_err-prewrite-clause-same g c = grind (arith, put_again, err_always, c.self.inside.transactions, c.prewrite.new.self, c.at_mut-transaction.ensures.there, c.in_err-prewrite.ensures.err, c.from_residual.result)
