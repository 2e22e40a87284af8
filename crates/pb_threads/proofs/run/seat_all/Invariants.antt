use Rattle.std.proofs.Common.{◌≡◌, ◌≤◌, ◌+◌, ◌++◌, length, vec_len, vec_capacity}
use Rattle.std.specs.Vec.Iter.{into_iter_items, into_iter_len}
use Rattle.pb_threads.specs.Work.{seats_in}
use Rattle.pb_threads.proofs.run.seat_all.Given as goal

abbrev pub invariant-loop-seat : goal.invariant-loop-seat
invariant-loop-seat l = record {
  same : seats_in l.workers.items ≡ l.yielded;
  parts : l.fn.seats.items ≡ l.yielded ++ into_iter_items l.seat-iterator;
  counted : into_iter_len l.seat-iterator ≡ length (into_iter_items l.seat-iterator);
  room : vec_len l.workers + into_iter_len l.seat-iterator ≤ vec_capacity l.workers;
}
