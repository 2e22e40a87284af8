use Rattle.pb_accepted.proofs.JumpsForward.{leads_later, jumps_forward}
use Rattle.pb_accepted.proofs.laws.jumps_lead_on.Goals as goal

pub returns-clause-later : goal.returns-clause-later
returns-clause-later c = leads_later

pub returns-clause-forward : goal.returns-clause-forward
returns-clause-forward c = jumps_forward
