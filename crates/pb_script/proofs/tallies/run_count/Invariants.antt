use Rattle.std.proofs.Common.{◌≡◌, ◌≤◌, take}
use Rattle.pb_script.specs.Words.{run_count}
use Rattle.pb_script.proofs.tallies.run_count.Given as goal

abbrev pub invariant-loop-entry : goal.invariant-loop-entry
invariant-loop-entry g l = record {
  counted : l.count ≡ run_count l.shared.state l.number (take l.entry-index l.entry-items);
  few : l.count ≤ l.entry-index;
}
