use Rattle.pb_world.proofs.Opening.{opened_sound}
use Rattle.law_worlds.proofs.opened_worlds_are_sound.Goals as goal

pub returns : goal.returns
returns c = opened_sound
