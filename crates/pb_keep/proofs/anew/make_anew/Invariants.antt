use Rattle.std.proofs.Common.{◌≡◌, ◌+◌, ◌++◌, length}
use Rattle.std.specs.Vec.Iter.{into_iter_items, into_iter_len}
use Rattle.pb_keep.specs.Words.{kept_table}
use Rattle.pb_keep.specs.Again.{KeepsMore}
use Rattle.pb_keep.specs.First.{first_changes, room_after}
use Rattle.pb_keep.specs.Kept.{reported_count}
use Rattle.pb_keep.proofs.anew.make_anew.Given as goal

-- the changes so far are made and counted, and they are the first
abbrev pub invariant-loop-batch : goal.invariant-loop-batch
invariant-loop-batch g l = record {
  parts : into_iter_items l.initial.batch-iterator ≡ l.yielded ++ into_iter_items l.batch-iterator;
  counted : into_iter_len l.batch-iterator ≡ length (into_iter_items l.batch-iterator);
  same : l.state.observers ≡ l.initial.state.observers;
  keeps : KeepsMore l.limit (kept_table l.initial.state l.initial.stats.items) l.yielded (kept_table l.state l.stats.items);
  count : l.made ≡ reported_count (l.initial.made + length l.yielded);
  first : first_changes (room_after l.fn.most l.initial.made) l.yielded ≡ l.yielded;
}
