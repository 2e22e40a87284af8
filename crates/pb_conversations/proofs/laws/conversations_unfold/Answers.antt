use Rattle.pb_conversations.proofs.Unfolding.{conversations_unfold}
use Rattle.pb_conversations.proofs.laws.conversations_unfold.Goals as goal

pub returns : goal.returns
returns g c = conversations_unfold g.J.AsksSteps.job
