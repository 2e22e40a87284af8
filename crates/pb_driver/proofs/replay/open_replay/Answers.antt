use Rattle.pb_driver.proofs.Unopened.{for_memory}
use Rattle.pb_driver.proofs.replay.open_replay.Goals as goal

pub unopened-requires : goal.unopened-requires
unopened-requires g c = for_memory c.args.table.contents c.in-Err-open.refused.refusal c.requires.empty c.in-Err-open.ensures.memory
