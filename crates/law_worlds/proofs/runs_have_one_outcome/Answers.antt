use Rattle.law_worlds.proofs.Runs.{runs_once}
use Rattle.law_worlds.proofs.runs_have_one_outcome.Goals as goal

pub returns : goal.returns
returns c = runs_once c.events_have_one_outcome.ensures c.worlds_stay_sound.ensures
