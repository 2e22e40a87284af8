use Rattle.pb_history.proofs.JournalsAreSound.{tells_soundness}
use Rattle.pb_history.proofs.laws.journals_are_sound.Goals as goal

pub returns : goal.returns
returns c = tells_soundness
