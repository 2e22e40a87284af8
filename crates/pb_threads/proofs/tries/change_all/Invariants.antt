use Rattle.std.proofs.Common.{◌≡◌, ◌+◌, ◌*◌, ◌-◌, length}
use Rattle.pb_threads.specs.Gains.{Gains}
use Rattle.pb_threads.specs.Tries.{AreTried}
use Rattle.pb_threads.proofs.tries.change_all.Given as goal

abbrev pub invariant-loop-next : goal.invariant-loop-next
invariant-loop-next g l = record {
  number : l.next ≡ l.fn.first + length l.done.items * l.fn.count;
  tried : Gains (AreTried l.fn.batches l.fn.count l.fn.first l.done.items) l.fn.seat l.seat;
}

abbrev pub decreases-loop-next : goal.decreases-loop-next
decreases-loop-next g l = length l.fn.batches - l.next
