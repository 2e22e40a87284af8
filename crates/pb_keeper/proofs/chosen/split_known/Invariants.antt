use Rattle.std.proofs.Common.{◌≡◌, ◌++◌, length}
use Rattle.std.specs.Vec.Iter.{into_iter_items, into_iter_len}
use Rattle.pb_keeper.specs.Choosing.{IsSplit}
use Rattle.pb_keeper.proofs.chosen.split_known.Given as goal

-- those that were met are split
abbrev pub invariant-loop-one : goal.invariant-loop-one
invariant-loop-one l = record {
  parts : l.fn.new.items ≡ l.yielded ++ into_iter_items l.one-iterator;
  counted : into_iter_len l.one-iterator ≡ length (into_iter_items l.one-iterator);
  split : IsSplit l.old l.yielded l.known.items l.others.items;
}
