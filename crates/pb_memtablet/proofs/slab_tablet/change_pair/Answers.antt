use Rattle.std.proofs.Common.{arith, ◌≡◌, subst, refl, drop, ◌∷◌}
use Rattle.std.specs.FinMap.{put}
use Rattle.pb_memtablet.specs.Words.{AllPutOfSort, slot_cmp, Edit}
use Rattle.pb_memtablet.specs.Listed.{EntryList}
use Rattle.pb_memtablet.specs.Stored.{seen}
use Rattle.pb_memtablet.proofs.Homes.{without}
use Rattle.pb_memtablet.proofs.Edits.{IsDone, put_done, erase_done, both_done}
use Rattle.pb_memtablet.proofs.Kept.{sorted_keys}
use Rattle.pb_memtablet.proofs.slab_tablet.change_pair.Goals as goal
use Rattle.pb_memtablet.proofs.slab_tablet.change_pair.Goals.{After-renew_entry, After-put_both}

pub renew_entry-requires-clause-sorted : goal.renew_entry-requires-clause-sorted
renew_entry-requires-clause-sorted c = sorted_keys c.args.items.now.slots c.args.keys.now.entries c.requires.kept.lists.entries

abbrev es : After-renew_entry → EntryList
es c = seen c.args.items.now.slots c.args.keys.now.entries

abbrev fs : After-renew_entry → EntryList
fs c = seen c.renew_entry.new.items.slots c.renew_entry.new.keys.entries

abbrev without_gone : After-renew_entry → EntryList
without_gone c = without slot_cmp c.in-Erase-Put.gone (es c)

edits_are : (c : After-renew_entry) → c.args.edits.now ≡ Edit.Erase c.in-Erase-Put.gone ∷ Edit.Put c.in-Erase-Put.slot c.in-Erase-Put.item ∷ drop 2 c.args.edits.now
edits_are c = grind arith

removal : (c : After-renew_entry) → IsDone (without_gone c) c.args.marks.now.entries (Edit.Erase c.in-Erase-Put.gone) (es c) c.args.marks.now.entries
removal c = erase_done (es c) c.args.marks.now.entries c.requires.kept.lists (without_gone c) c.in-Erase-Put.gone refl

put_after : (c : After-renew_entry) → fs c ≡ put slot_cmp c.in-Erase-Put.slot c.in-Erase-Put.item (without_gone c) → IsDone (fs c) c.args.marks.now.entries (Edit.Put c.in-Erase-Put.slot c.in-Erase-Put.item) (without_gone c) c.args.marks.now.entries
put_after c e = put_done (without_gone c) c.args.marks.now.entries (removal c).lists (fs c) c.in-Erase-Put.slot c.in-Erase-Put.item e (subst AllPutOfSort (edits_are c) c.requires.of_sort).1.0

pub returns-then-renew_entry-clause-kept : goal.returns-then-renew_entry-clause-kept
returns-then-renew_entry-clause-kept c =
    record { keys = c.renew_entry.ensures.stored; lists = (put_after (goal.at.returns-then-renew_entry-clause-kept c).After-renew_entry (c.renew_entry.ensures.renewed c.if-renew_entry.true)).lists }

pub returns-then-renew_entry-clause-contents : goal.returns-then-renew_entry-clause-contents
returns-then-renew_entry-clause-contents c =
    let at = (goal.at.returns-then-renew_entry-clause-contents c).After-renew_entry in
    both_done (fs at) (without_gone at) (es at) c.args.marks.now.entries c.args.edits.now _ _ (edits_are at) (removal at) (put_after at (c.renew_entry.ensures.renewed c.if-renew_entry.true))

-- ---- two puts
pub are_free-requires : goal.are_free-requires
are_free-requires c = sorted_keys c.args.items.now.slots c.args.keys.now.entries c.requires.kept.lists.entries

abbrev listed : After-put_both → EntryList
listed c = seen c.args.items.now.slots c.args.keys.now.entries

abbrev listed_after : After-put_both → EntryList
listed_after c = seen c.put_both.new.items.slots c.put_both.new.keys.entries

abbrev put_once : After-put_both → EntryList
put_once c = put slot_cmp c.in-Put-Put.slot c.in-Put-Put.item (listed c)

puts_are : (c : After-put_both) → c.args.edits.now ≡ Edit.Put c.in-Put-Put.slot c.in-Put-Put.item ∷ Edit.Put c.in-Put-Put.next c.in-Put-Put.next_item ∷ drop 2 c.args.edits.now
puts_are c = grind arith

first_put : (c : After-put_both) → IsDone (put_once c) c.args.marks.now.entries (Edit.Put c.in-Put-Put.slot c.in-Put-Put.item) (listed c) c.args.marks.now.entries
first_put c = put_done (listed c) c.args.marks.now.entries c.requires.kept.lists (put_once c) c.in-Put-Put.slot c.in-Put-Put.item refl (subst AllPutOfSort (puts_are c) c.requires.of_sort).0

second_put : (c : After-put_both) → IsDone (listed_after c) c.args.marks.now.entries (Edit.Put c.in-Put-Put.next c.in-Put-Put.next_item) (put_once c) c.args.marks.now.entries
second_put c = put_done (put_once c) c.args.marks.now.entries (first_put c).lists (listed_after c) c.in-Put-Put.next c.in-Put-Put.next_item c.put_both.ensures.seen (subst AllPutOfSort (puts_are c) c.requires.of_sort).1.0

pub put_both-requires-clause-sorted : goal.put_both-requires-clause-sorted
put_both-requires-clause-sorted c = sorted_keys c.args.items.now.slots c.args.keys.now.entries c.requires.kept.lists.entries

pub returns-then-are_free-clause-kept : goal.returns-then-are_free-clause-kept
returns-then-are_free-clause-kept c = record { keys = c.put_both.ensures.stored; lists = (second_put c).lists }

pub returns-then-are_free-clause-contents : goal.returns-then-are_free-clause-contents
returns-then-are_free-clause-contents c = both_done (listed_after c) (put_once c) (listed c) c.args.marks.now.entries c.args.edits.now _ _ (puts_are c) (first_put c) (second_put c)
