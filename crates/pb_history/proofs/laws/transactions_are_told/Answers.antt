use Rattle.pb_history.proofs.TransactionsTold.{tells_transactions}
use Rattle.pb_history.proofs.laws.transactions_are_told.Goals as goal

pub returns : goal.returns
returns c = tells_transactions
