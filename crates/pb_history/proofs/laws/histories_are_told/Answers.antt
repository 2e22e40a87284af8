use Rattle.pb_history.proofs.HistoryTold.{legal_tells_history}
use Rattle.pb_history.proofs.laws.histories_are_told.Goals as goal

pub returns : goal.returns
returns c = legal_tells_history
