-- What becomes of all transactions where one of them is lent to be changed.
use Rattle.std.specs.FinMap as map
use Rattle.std.specs.Borrow.{Lends, MutBor, Fml}
use Rattle.pb_state.specs.Words.{TransactionOf, Transactions}
use Rattle.pb_state.specs.declared.admitted.TransactionAt.{TransactionAt}
use Rattle.pb_state.specs.contracts.transaction.Transaction as transaction
use Rattle.pb_state.specs.contracts.transactions.Transactions as transactions

-- under its start there is what it is left as
abbrev pub LendsTransaction : MutBor Transactions → TransactionAt → MutBor TransactionOf → Fml
LendsTransaction ts at t = Lends transactions.the_row transaction.the_row ts t (map.insert ts.now at.start.0)
