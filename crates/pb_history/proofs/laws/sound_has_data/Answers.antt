use Rattle.pb_history.proofs.SoundHasData.{keeps_data}
use Rattle.pb_history.proofs.laws.sound_has_data.Goals as goal

pub returns : goal.returns
returns c = keeps_data
