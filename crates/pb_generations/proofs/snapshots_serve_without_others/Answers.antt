use Rattle.pb_generations.proofs.LeftOutMirrors.{mirrors_without_others, shown_serves_without}
use Rattle.pb_generations.proofs.snapshots_serve_without_others.Goals as goal

pub returns-clause-itself : goal.returns-clause-itself
returns-clause-itself c = mirrors_without_others

pub returns-clause-serve : goal.returns-clause-serve
returns-clause-serve c = shown_serves_without c.sound_has_data.ensures c.old_may_be_dropped.ensures.itself
