use Rattle.pb_conversations.proofs.Cutting.{beginnings_are_cut}
use Rattle.pb_conversations.proofs.laws.beginnings_are_cut.Goals as goal

pub returns : goal.returns
returns g c = beginnings_are_cut g.J.AsksSteps.job
