use Rattle.law_replays.proofs.Replays.{caught_up_once}
use Rattle.law_replays.proofs.catching_up_has_one_outcome.Goals as goal

pub returns : goal.returns
returns c = caught_up_once c.steps_have_one_outcome.ensures c.steps_keep_sound.ensures.step c.steps_keep_sound.ensures.opening c.snapshots_serve.ensures.left c.snapshots_serve.ensures.chosen c.each_has_one_meaning.ensures c.machines_are_led.ensures.led
