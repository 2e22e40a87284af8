use Rattle.pb_accepted.proofs.FramesAreMeets.{frames_are_meets}
use Rattle.pb_accepted.proofs.laws.frames_are_meets.Goals as goal

pub returns : goal.returns
returns c = frames_are_meets
