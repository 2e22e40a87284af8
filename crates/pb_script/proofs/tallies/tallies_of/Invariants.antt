use Rattle.std.proofs.Common.{take}
use Rattle.pb_script.specs.Tallies.{AreTallies}
use Rattle.pb_script.proofs.tallies.tallies_of.Given as goal

abbrev pub invariant-loop-number : goal.invariant-loop-number
invariant-loop-number g l = AreTallies l.shared.state.observers l.shared.journal 0 (take l.number l.observers) l.tallies.items
