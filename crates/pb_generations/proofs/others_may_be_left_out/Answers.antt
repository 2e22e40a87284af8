use Rattle.pb_generations.proofs.LeftOutMirrors.{others_may_be_left_out}
use Rattle.pb_generations.proofs.LeftOutRefusals.{same_refusals}
use Rattle.pb_generations.proofs.LeftOutSteps.{others_are_never_missed, others_are_never_named, marks_miss_nothing}
use Rattle.pb_generations.proofs.others_may_be_left_out.Goals as goal

pub returns-clause-begin : goal.returns-clause-begin
returns-clause-begin c = others_may_be_left_out c.sound_has_data.ensures

pub returns-clause-steps : goal.returns-clause-steps
returns-clause-steps c = others_are_never_missed

pub returns-clause-answers : goal.returns-clause-answers
returns-clause-answers c = others_are_never_named

pub returns-clause-marks : goal.returns-clause-marks
returns-clause-marks c = marks_miss_nothing

pub returns-clause-refusals : goal.returns-clause-refusals
returns-clause-refusals c = same_refusals
