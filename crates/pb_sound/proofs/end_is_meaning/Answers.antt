use Rattle.pb_sound.proofs.Everywhere.{end_is_meaning}
use Rattle.pb_sound.proofs.end_is_meaning.Goals as goal

pub returns : goal.returns
returns c = end_is_meaning
