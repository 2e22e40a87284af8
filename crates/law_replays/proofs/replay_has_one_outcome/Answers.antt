use Rattle.law_replays.proofs.Replays.{replay_once}
use Rattle.law_replays.proofs.replay_has_one_outcome.Goals as goal

pub returns : goal.returns
returns c = replay_once c.steps_have_one_outcome.ensures c.steps_keep_sound.ensures.step c.steps_keep_sound.ensures.opening c.snapshots_serve.ensures.left c.snapshots_serve.ensures.chosen c.each_has_one_meaning.ensures c.machines_are_led.ensures.led
