use Rattle.pb_txn.proofs.Allowed.{plans_allowed}
use Rattle.pb_txn.proofs.laws.plans_are_allowed.Goals as goal

pub returns : goal.returns
returns c = plans_allowed c.histories_are_told.ensures c.transactions_are_told.ensures c.journals_are_sound.ensures
