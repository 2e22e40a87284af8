use Rattle.std.proofs.Common.{◌≡◌, ◌++◌, ◌-◌, map, take, replicate}
use Rattle.pb_base.specs.declared.limits.TheConstants.{MAX_CELLS}
use Rattle.pb_api.specs.Runs.{write_made, no_write}
use Rattle.pb_api.proofs.running.writes_made.Given as goal

-- the first writes, and no more
abbrev pub invariant-loop-at : goal.invariant-loop-at
invariant-loop-at l = l.made ≡ map write_made (take l.at l.writes) ++ replicate (MAX_CELLS - l.at) no_write
