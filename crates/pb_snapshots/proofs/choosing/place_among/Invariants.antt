use Rattle.std.proofs.Common.{◌≡◌, drop}
use Rattle.pb_generations.specs.Chosen.{place_among}
use Rattle.pb_snapshots.proofs.Places.{found_from}
use Rattle.pb_snapshots.proofs.choosing.place_among.Given as goal

-- what is found among the rest is found
abbrev pub invariant-loop-place : goal.invariant-loop-place
invariant-loop-place l = found_from l.place (drop l.place l.places) l.number ≡ place_among l.places l.number
