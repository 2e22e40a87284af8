use Rattle.std.proofs.Common.{◌≡◌, ◌≤◌, drop, count_by}
use Rattle.slab.specs.Slab.{HasRoomFor}
use Rattle.pb_memtablet.specs.Words.{after_edits, AllPutOfSort}
use Rattle.pb_memtablet.specs.Listed.{contents_of, is_put, is_mark}
use Rattle.pb_memtablet.specs.Stored.{seen, AreKept}
use Rattle.pb_memtablet.proofs.slab_tablet.change_each.Given as goal

abbrev pub invariant-loop-edit : goal.invariant-loop-edit
invariant-loop-edit l = record {
  kept : AreKept l.items.slots l.keys.entries l.marks.entries;
  of_sort : AllPutOfSort (drop l.edit-index l.edits);
  room : count_by is_put (drop l.edit-index l.edits) ≤ l.keys.room;
  slots : HasRoomFor l.items (count_by is_put (drop l.edit-index l.edits));
  mark_room : count_by is_mark (drop l.edit-index l.edits) ≤ l.marks.room;
  done : after_edits (drop l.edit-index l.edits) (contents_of (seen l.items.slots l.keys.entries) l.marks.entries)
      ≡ after_edits l.edits (contents_of (seen l.initial.items.slots l.initial.keys.entries) l.initial.marks.entries);
}
