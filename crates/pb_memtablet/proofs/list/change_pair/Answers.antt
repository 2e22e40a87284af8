use Rattle.std.proofs.Common.{arith, ◌≡◌, subst, refl, drop, ◌∷◌}
use Rattle.std.specs.FinMap.{put}
use Rattle.pb_memtablet.specs.Words.{AllPutOfSort, slot_cmp, Edit}
use Rattle.pb_memtablet.specs.Listed.{EntryList}
use Rattle.pb_memtablet.proofs.Homes.{without}
use Rattle.pb_memtablet.proofs.Edits.{IsDone, put_done, erase_done, both_done}
use Rattle.pb_memtablet.proofs.list.change_pair.Goals as goal
use Rattle.pb_memtablet.proofs.list.change_pair.Goals.{After-put_both, After-replace}

-- ---- two puts
abbrev put_once : After-put_both → EntryList
put_once c = put slot_cmp c.in-Put-Put.slot c.in-Put-Put.item c.args.entries.now.entries

puts_are : (c : After-put_both) → c.args.edits.now ≡ Edit.Put c.in-Put-Put.slot c.in-Put-Put.item ∷ Edit.Put c.in-Put-Put.next c.in-Put-Put.next_item ∷ drop 2 c.args.edits.now
puts_are c = grind arith

first_put : (c : After-put_both) → IsDone (put_once c) c.args.marks.now.entries (Edit.Put c.in-Put-Put.slot c.in-Put-Put.item) c.args.entries.now.entries c.args.marks.now.entries
first_put c = put_done c.args.entries.now.entries c.args.marks.now.entries c.requires.lists (put_once c) c.in-Put-Put.slot c.in-Put-Put.item refl (subst AllPutOfSort (puts_are c) c.requires.of_sort).0

second_put : (c : After-put_both) → IsDone c.put_both.new.self.entries c.args.marks.now.entries (Edit.Put c.in-Put-Put.next c.in-Put-Put.next_item) (put_once c) c.args.marks.now.entries
second_put c =
    put_done (put_once c) c.args.marks.now.entries (first_put c).lists c.put_both.new.self.entries c.in-Put-Put.next c.in-Put-Put.next_item c.put_both.ensures.entries (subst AllPutOfSort (puts_are c) c.requires.of_sort).1.0

-- ---- a removal and a put
abbrev without_gone : After-replace → EntryList
without_gone c = without slot_cmp c.in-Erase-Put.gone c.args.entries.now.entries

edits_are : (c : After-replace) → c.args.edits.now ≡ Edit.Erase c.in-Erase-Put.gone ∷ Edit.Put c.in-Erase-Put.slot c.in-Erase-Put.item ∷ drop 2 c.args.edits.now
edits_are c = grind arith

-- a replacement is an erasure and then a put, each done as one edit: first the erasure
removal : (c : After-replace) → IsDone (without_gone c) c.args.marks.now.entries (Edit.Erase c.in-Erase-Put.gone) c.args.entries.now.entries c.args.marks.now.entries
removal c = erase_done c.args.entries.now.entries c.args.marks.now.entries c.requires.lists (without_gone c) c.in-Erase-Put.gone refl

put_after : (c : After-replace) → IsDone c.replace.new.self.entries c.args.marks.now.entries (Edit.Put c.in-Erase-Put.slot c.in-Erase-Put.item) (without_gone c) c.args.marks.now.entries
put_after c =
    put_done (without_gone c) c.args.marks.now.entries (removal c).lists c.replace.new.self.entries c.in-Erase-Put.slot c.in-Erase-Put.item c.replace.ensures.entries (subst AllPutOfSort (edits_are c) c.requires.of_sort).1.0

pub returns-in-Put-Put-clause-lists : goal.returns-in-Put-Put-clause-lists
returns-in-Put-Put-clause-lists c = (second_put c).lists

pub returns-in-Put-Put-clause-contents : goal.returns-in-Put-Put-clause-contents
returns-in-Put-Put-clause-contents c =
    both_done c.put_both.new.self.entries (put_once c) c.args.entries.now.entries c.args.marks.now.entries c.args.edits.now _ _ (puts_are c) (first_put c) (second_put c)

pub returns-in-Erase-Put-clause-lists : goal.returns-in-Erase-Put-clause-lists
returns-in-Erase-Put-clause-lists c = (put_after c).lists

pub returns-in-Erase-Put-clause-contents : goal.returns-in-Erase-Put-clause-contents
returns-in-Erase-Put-clause-contents c =
    both_done c.replace.new.self.entries (without_gone c) c.args.entries.now.entries c.args.marks.now.entries c.args.edits.now _ _ (edits_are c) (removal c) (put_after c)
