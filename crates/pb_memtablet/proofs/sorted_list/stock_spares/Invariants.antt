use Rattle.std.proofs.Common.{◌≤◌, ◌-◌, max, vec_len, All}
use Rattle.pb_memtablet.specs.Chunks.{IsSpare}
use Rattle.pb_memtablet.proofs.sorted_list.stock_spares.Given as goal

abbrev pub invariant-loop-alloc : goal.invariant-loop-alloc
invariant-loop-alloc g l = record {
  spares : All IsSpare l.spares.items;
  kept : vec_len l.fn.spares ≤ vec_len l.spares;
  most : vec_len l.spares ≤ max (vec_len l.fn.spares) l.wanted;
}

abbrev pub decreases-loop-alloc : goal.decreases-loop-alloc
decreases-loop-alloc g l = l.wanted - vec_len l.spares
