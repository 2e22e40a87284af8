use Rattle.pb_sound.proofs.Placements.{each_placement_has_the_slot}
use Rattle.pb_sound.proofs.each_placement_has_the_slot.Goals as goal

pub returns : goal.returns
returns c = each_placement_has_the_slot
