use Rattle.std.proofs.Common.{take}
use Rattle.pb_script.proofs.Gathering.{all_puts}
use Rattle.pb_script.specs.Reports.{AreNewest}
use Rattle.pb_script.proofs.output.newest_of.Given as goal

abbrev pub invariant-loop-entry : goal.invariant-loop-entry
invariant-loop-entry g l = AreNewest (all_puts l.shared.state (take l.entry-index l.entry-items)) l.table
