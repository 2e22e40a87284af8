use Rattle.pb_worker.proofs.Making.{changes_are_made}
use Rattle.pb_worker.proofs.laws.changes_are_made.Goals as goal

pub returns : goal.returns
returns c = changes_are_made c.transactions_are_told.ensures
