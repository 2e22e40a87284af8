use Rattle.pb_isa.proofs.NextSlots.{lead_on}
use Rattle.pb_isa.proofs.program.next_slots_are_first.Goals as goal

pub returns : goal.returns
returns c = lead_on
