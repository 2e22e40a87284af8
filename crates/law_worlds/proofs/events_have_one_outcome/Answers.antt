use Rattle.law_worlds.proofs.Events.{events_once}
use Rattle.law_worlds.proofs.events_have_one_outcome.Goals as goal

pub returns : goal.returns
returns c = events_once c.steps_have_one_outcome.ensures c.journals_are_sound.ensures c.each_has_one_meaning.ensures c.machines_are_led.ensures.led
