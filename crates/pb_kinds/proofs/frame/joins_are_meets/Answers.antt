use Rattle.pb_kinds.proofs.JoinIsMeet.{join_is_meet}
use Rattle.pb_kinds.proofs.frame.joins_are_meets.Goals as goal

pub returns : goal.returns
returns c = join_is_meet
