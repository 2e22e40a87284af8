use Rattle.pb_conversations.proofs.Cutting.{parts_are_cut}
use Rattle.pb_conversations.proofs.Joining.{parts_join}
use Rattle.pb_conversations.proofs.laws.parts_are_cut.Goals as goal

pub returns-clause-follow : goal.returns-clause-follow
returns-clause-follow g c = parts_join

pub returns-clause-cut : goal.returns-clause-cut
returns-clause-cut g c = parts_are_cut g.P.ComesInParts.part g.P.ComesInParts.begun
