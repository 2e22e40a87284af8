use Rattle.pb_snapshots.proofs.Beginning.{snapshots_begin}
use Rattle.pb_snapshots.proofs.beginning_law.snapshots_begin.Goals as goal

pub returns : goal.returns
returns c = snapshots_begin c.steps_keep_sound.ensures.step c.steps_keep_sound.ensures.opening c.snapshots_serve.ensures.left c.snapshots_serve.ensures.chosen
