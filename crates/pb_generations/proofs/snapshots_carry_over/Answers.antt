use Rattle.pb_generations.proofs.ViewedVersions.{shows_whole}
use Rattle.pb_generations.proofs.snapshots_carry_over.Goals as goal

pub returns : goal.returns
returns t = shows_whole
