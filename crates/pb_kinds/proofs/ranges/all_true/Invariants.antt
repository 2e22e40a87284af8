use Rattle.std.proofs.Common.{◌≡◌, drop}
use Rattle.std.specs.List.{list_all}
use Rattle.pb_kinds.proofs.ranges.all_true.Given as goal

abbrev pub invariant-loop-b : goal.invariant-loop-b
invariant-loop-b l = list_all (λ b. b) (drop l.b-index l.bytes) ≡ list_all (λ b. b) l.bytes
