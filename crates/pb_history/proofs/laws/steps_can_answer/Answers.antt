use Rattle.pb_history.proofs.StepsCanAnswer.{steps_answer}
use Rattle.pb_history.proofs.laws.steps_can_answer.Goals as goal

pub returns : goal.returns
returns c = steps_answer
