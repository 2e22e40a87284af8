use Rattle.pb_sound.proofs.Silent.{without_helpers_silent}
use Rattle.pb_sound.proofs.without_helpers_silent.Goals as goal

pub returns : goal.returns
returns c = without_helpers_silent
