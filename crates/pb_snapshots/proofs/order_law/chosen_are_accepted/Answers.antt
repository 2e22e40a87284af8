use Rattle.pb_snapshots.proofs.TakenOrder.{chosen_are_accepted}
use Rattle.pb_snapshots.proofs.order_law.chosen_are_accepted.Goals as goal

pub returns : goal.returns
returns c = chosen_are_accepted c.steps_keep_sound.ensures.step c.steps_keep_sound.ensures.opening c.snapshots_serve.ensures.left c.snapshots_serve.ensures.chosen c.tables_keep_their_changes.ensures.follow
    c.tables_keep_their_changes.ensures.whole c.kept_tables_are_whole.ensures.whole c.runs_are_told.ensures c.scripts_write_batches.ensures
