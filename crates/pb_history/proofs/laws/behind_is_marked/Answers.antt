use Rattle.pb_history.proofs.MarksCover.{tells_marks}
use Rattle.pb_history.proofs.laws.behind_is_marked.Goals as goal

pub returns : goal.returns
returns c = tells_marks
