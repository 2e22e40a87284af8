use Rattle.std.proofs.Common.{◌≡◌, ◌++◌, List, map, Ok, length}
use Rattle.std.specs.Vec.Iter.{into_iter_items, into_iter_len}
use Rattle.pb_keep.specs.Words.{Writes, kept_table}
use Rattle.pb_keep.specs.Again.{AreFirstMade}
use Rattle.pb_keep.specs.Kept.{changes_of}
use Rattle.pb_keep.proofs.anew.make_first.Given as goal

-- the first changes of the records so far are made
abbrev pub invariant-loop-record : goal.invariant-loop-record
invariant-loop-record g l = record {
  parts : l.fn.records.items ≡ l.yielded ++ into_iter_items l.record-iterator;
  counted : into_iter_len l.record-iterator ≡ length (into_iter_items l.record-iterator);
  same : l.state.observers ≡ l.initial.state.observers;
  made : (more : List Writes) × (changes_of (map (λ v. v.items) l.yielded) ≡ Ok more) × AreFirstMade l.fn.limit l.fn.most more (kept_table l.initial.state l.initial.stats.items) (kept_table l.state l.stats.items) l.made;
}
