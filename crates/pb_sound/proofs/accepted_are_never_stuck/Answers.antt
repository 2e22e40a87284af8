use Rattle.pb_sound.proofs.Reached.{never_stuck}
use Rattle.pb_sound.proofs.accepted_are_never_stuck.Goals as goal

pub returns : goal.returns
returns c = never_stuck
