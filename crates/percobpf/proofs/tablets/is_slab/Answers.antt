use Rattle.std.proofs.Common.{sym, arith}
use Rattle.percobpf.proofs.Sorts.{slab_after_even, slab_after_odd}
use Rattle.percobpf.proofs.tablets.is_slab.Goals as goal

pub returns-then-swaps-eq0 : goal.returns-then-swaps-eq0
returns-then-swaps-eq0 c = sym (slab_after_even c.args.place c.args.swaps (omega (arith, c.if-swaps-eq0.true)))

pub returns-else-swaps-eq0 : goal.returns-else-swaps-eq0
returns-else-swaps-eq0 c = sym (slab_after_odd c.args.place c.args.swaps (omega (arith, c.if-swaps-eq0.false)))
