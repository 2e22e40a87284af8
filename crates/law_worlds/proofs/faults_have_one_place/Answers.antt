use Rattle.law_worlds.proofs.Stops.{faults_once, whole_runs}
use Rattle.law_worlds.proofs.faults_have_one_place.Goals as goal

pub returns-clause-one : goal.returns-clause-one
returns-clause-one c = faults_once c.events_have_one_outcome.ensures c.worlds_stay_sound.ensures c.runs_have_one_outcome.ensures

pub returns-clause-none : goal.returns-clause-none
returns-clause-none c = whole_runs c.events_have_one_outcome.ensures c.worlds_stay_sound.ensures
