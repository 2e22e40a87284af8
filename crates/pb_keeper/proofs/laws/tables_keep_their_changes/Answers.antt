use Rattle.pb_keeper.proofs.Following.{kept_follow}
use Rattle.pb_keeper.proofs.Keeping.{beginning_keeps_none, kept_is_whole}
use Rattle.pb_keeper.proofs.Resting.{kept_is_unlocked}
use Rattle.pb_keeper.proofs.laws.tables_keep_their_changes.Goals as goal

pub returns-clause-beginning : goal.returns-clause-beginning
returns-clause-beginning c = beginning_keeps_none

pub returns-clause-unlocked : goal.returns-clause-unlocked
returns-clause-unlocked c = kept_is_unlocked c.steps_keep_sound.ensures.step c.steps_keep_sound.ensures.opening c.snapshots_serve.ensures.left c.snapshots_serve.ensures.chosen

pub returns-clause-whole : goal.returns-clause-whole
returns-clause-whole c = kept_is_whole c.steps_keep_sound.ensures.step c.steps_keep_sound.ensures.opening c.snapshots_serve.ensures.left c.snapshots_serve.ensures.chosen c.jobs_keep_tables.ensures.runs c.jobs_keep_tables.ensures.whole c.jobs_keep_tables.ensures.marks

pub returns-clause-follow : goal.returns-clause-follow
returns-clause-follow c = kept_follow c.steps_keep_sound.ensures.step c.steps_keep_sound.ensures.opening c.snapshots_serve.ensures.left c.snapshots_serve.ensures.chosen
