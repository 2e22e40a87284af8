use Rattle.pb_threads.specs.Gains.{opening_of}
use Rattle.pb_threads.proofs.run.run_workers.Given as goal

abbrev pub ghosts-run_held : goal.ghosts-run_held
ghosts-run_held g a = record { opening = opening_of a.shared }
