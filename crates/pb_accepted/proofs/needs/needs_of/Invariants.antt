use Rattle.std.proofs.Common.{◌≡◌, ◌≤◌, ◌+◌}
use Rattle.pb_accepted.specs.Needs.{reads_from, writes_from}
use Rattle.pb_accepted.proofs.needs.needs_of.Given as goal

abbrev pub invariant-loop-slot : goal.invariant-loop-slot
invariant-loop-slot l = record {
  few : l.reads ≤ l.slot;
  few_writes : l.writes ≤ l.slot;
  reads : l.reads + reads_from l.fn.program.insns l.slot ≡ reads_from l.fn.program.insns 0;
  writes : l.writes + writes_from l.fn.program.insns l.slot ≡ writes_from l.fn.program.insns 0;
}
