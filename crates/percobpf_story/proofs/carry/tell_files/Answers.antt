use Rattle.std.proofs.Common.{refl}
use Rattle.percobpf_story.proofs.carry.tell_files.Goals as goal

pub returns-in-Err-clause-told : goal.returns-in-Err-clause-told
returns-in-Err-clause-told g c = (c.in-Err.ensures.fault, (refl, c.requires.unfailed))
