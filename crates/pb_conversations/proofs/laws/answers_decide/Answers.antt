use Rattle.pb_conversations.proofs.Deciding.{answers_decide}
use Rattle.pb_conversations.proofs.laws.answers_decide.Goals as goal

pub returns : goal.returns
returns g c = answers_decide g.J.AsksSteps.job
