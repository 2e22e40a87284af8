use Rattle.pb_history.proofs.Progress.{finds_first}
use Rattle.pb_history.proofs.laws.first_marks_are_found.Goals as goal

pub returns : goal.returns
returns c = finds_first
