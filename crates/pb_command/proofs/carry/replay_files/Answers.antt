use Rattle.std.proofs.Common.{refl}
use Rattle.pb_command.proofs.carry.replay_files.Goals as goal

pub returns-in-Err-clause-ran : goal.returns-in-Err-clause-ran
returns-in-Err-clause-ran g c = (c.in-Err.ensures.fault, (refl, c.requires.unfailed))
