use Rattle.std.proofs.Common.{◌≡◌, ◌≤◌, ◌+◌, ◌++◌, length, vec_len, vec_capacity}
use Rattle.std.specs.Vec.Iter.{into_iter_items, into_iter_len}
use Rattle.pb_threads.specs.Work.{seats_in, refusals_in}
use Rattle.pb_threads.proofs.run.part.Given as goal

abbrev pub invariant-loop-worker : goal.invariant-loop-worker
invariant-loop-worker l = record {
  seats_are : l.seats.items ≡ seats_in l.yielded;
  refusals_are : l.refusals.items ≡ refusals_in l.yielded;
  parts : l.fn.workers.items ≡ l.yielded ++ into_iter_items l.worker-iterator;
  counted : into_iter_len l.worker-iterator ≡ length (into_iter_items l.worker-iterator);
  room : vec_len l.seats + into_iter_len l.worker-iterator ≤ vec_capacity l.seats;
  refusals_room : vec_len l.refusals + into_iter_len l.worker-iterator ≤ vec_capacity l.refusals;
}
