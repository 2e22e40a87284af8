use Rattle.std.proofs.Common.{◌≡◌, map, vec_len}
use Rattle.percobpf.specs.Places.{placed, spares}
use Rattle.percobpf.proofs.tablets.spares_for.Given as goal

abbrev pub invariant-loop-number : goal.invariant-loop-number
invariant-loop-number l = record {
  spares : map placed l.all.items ≡ spares l.number;
  count : vec_len l.all ≡ l.number;
}
