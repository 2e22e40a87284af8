use Rattle.pb_world.proofs.Soundness.{events_keep_sound}
use Rattle.pb_world.proofs.laws.worlds_stay_sound.Goals as goal

pub returns : goal.returns
returns c = events_keep_sound
