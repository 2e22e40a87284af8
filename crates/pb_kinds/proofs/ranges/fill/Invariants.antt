use Rattle.std.proofs.Common.{◌≡◌, ◌++◌, drop, replicate, true}
use Rattle.pb_kinds.proofs.ranges.fill.Given as goal

abbrev pub invariant-loop-b : goal.invariant-loop-b
invariant-loop-b l = l.bytes ≡ replicate l.b-index true ++ drop l.b-index l.fn.bytes
