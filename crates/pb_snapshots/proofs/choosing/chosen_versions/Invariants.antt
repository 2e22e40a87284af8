use Rattle.std.proofs.Common.{drop}
use Rattle.pb_snapshots.specs.ChosenWalks.{HasChosen}
use Rattle.pb_snapshots.proofs.choosing.chosen_versions.Given as goal

-- what is chosen of the versions that were met is noted
abbrev pub invariant-loop-version : goal.invariant-loop-version
invariant-loop-version l = HasChosen l.places l.cells (drop l.version-index l.cells) l.versions
