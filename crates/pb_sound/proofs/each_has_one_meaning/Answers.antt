use Rattle.pb_sound.proofs.OneMeaning.{one_meaning}
use Rattle.pb_sound.proofs.each_has_one_meaning.Goals as goal

pub returns : goal.returns
returns c = one_meaning
