use Rattle.std.proofs.Common.{take}
use Rattle.pb_keeper.specs.Words.{AreChosen}
use Rattle.pb_keeper.proofs.chosen.places_of.Given as goal

-- these are the places of those that were met
abbrev pub invariant-loop-one : goal.invariant-loop-one
invariant-loop-one l = AreChosen l.places.items l.old (take l.one-index l.new)
