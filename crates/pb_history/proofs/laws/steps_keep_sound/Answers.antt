use Rattle.pb_history.proofs.StepsKeepSound.{steps_keep}
use Rattle.pb_history.proofs.OpeningSound.{opening_sound}
use Rattle.pb_history.proofs.laws.steps_keep_sound.Goals as goal

pub returns-clause-step : goal.returns-clause-step
returns-clause-step c = steps_keep

pub returns-clause-opening : goal.returns-clause-opening
returns-clause-opening c = opening_sound
