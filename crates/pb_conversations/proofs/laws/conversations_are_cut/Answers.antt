use Rattle.pb_conversations.proofs.Cutting.{conversations_are_cut}
use Rattle.pb_conversations.proofs.laws.conversations_are_cut.Goals as goal

pub returns : goal.returns
returns g c = conversations_are_cut g.J.AsksSteps.job
