use Rattle.std.proofs.Common.{◌≡◌, ◌≤◌, ◌-◌, length, vec_len, vec_capacity}
use Rattle.pb_threads.specs.Work.{is_done, flags_in, undone_below}
use Rattle.pb_threads.proofs.run.note_unfinished.Given as goal

abbrev pub invariant-loop-number : goal.invariant-loop-number
invariant-loop-number l = record {
  are : l.unfinished.items ≡ undone_below (is_done (flags_in l.fn.workers) (length l.fn.workers - 1)) l.number;
  few : vec_len l.unfinished ≤ l.number;
  room : l.fn.changes ≤ vec_capacity l.unfinished;
}
