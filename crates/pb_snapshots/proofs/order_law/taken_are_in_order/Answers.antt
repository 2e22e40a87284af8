use Rattle.pb_snapshots.proofs.TakenOrder.{taken_are_in_order, taken_are_accepted}
use Rattle.pb_snapshots.proofs.order_law.taken_are_in_order.Goals as goal

pub returns-clause-order : goal.returns-clause-order
returns-clause-order c = taken_are_in_order c.steps_keep_sound.ensures.step c.steps_keep_sound.ensures.opening c.snapshots_serve.ensures.left c.snapshots_serve.ensures.chosen c.tables_keep_their_changes.ensures.follow
    c.tables_keep_their_changes.ensures.whole c.kept_tables_are_whole.ensures.whole c.runs_are_told.ensures c.scripts_write_batches.ensures

pub returns-clause-accepted : goal.returns-clause-accepted
returns-clause-accepted c = taken_are_accepted c.steps_keep_sound.ensures.step c.steps_keep_sound.ensures.opening c.snapshots_serve.ensures.left c.snapshots_serve.ensures.chosen c.tables_keep_their_changes.ensures.follow
    c.tables_keep_their_changes.ensures.whole c.kept_tables_are_whole.ensures.whole c.runs_are_told.ensures c.scripts_write_batches.ensures
