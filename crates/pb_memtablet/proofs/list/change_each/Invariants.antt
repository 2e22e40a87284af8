use Rattle.std.proofs.Common.{◌≡◌, ◌≤◌, drop, count_by}
use Rattle.pb_memtablet.specs.Words.{after_edits, AllPutOfSort}
use Rattle.pb_memtablet.specs.Listed.{contents_of, AreLists, is_put, is_mark}
use Rattle.pb_memtablet.proofs.list.change_each.Given as goal

abbrev pub invariant-loop-edit : goal.invariant-loop-edit
invariant-loop-edit l = record {
  lists : AreLists l.entries.entries l.marks.entries;
  of_sort : AllPutOfSort (drop l.edit-index l.edits);
  room : count_by is_put (drop l.edit-index l.edits) ≤ l.entries.room;
  mark_room : count_by is_mark (drop l.edit-index l.edits) ≤ l.marks.room;
  done : after_edits (drop l.edit-index l.edits) (contents_of l.entries.entries l.marks.entries) ≡ after_edits l.edits (contents_of l.initial.entries.entries l.initial.marks.entries);
}
