use Rattle.std.proofs.Common.{sym, subst}
use Rattle.pb_memtablet.specs.Words.{PutsOfSort}
use Rattle.pb_memtablet.specs.Stored.{seen}
use Rattle.pb_memtablet.proofs.Edits.{IsDone, put_done, erase_done, mark_done, unmark_done}
use Rattle.pb_memtablet.proofs.Kept.{sorted_keys}
use Rattle.pb_memtablet.proofs.slab_tablet.change.Goals as goal
use Rattle.pb_memtablet.proofs.slab_tablet.change.Goals.{After-replace_entry, After-take_entry, After-put, After-take_out}

pub replace_entry-requires-clause-sorted : goal.replace_entry-requires-clause-sorted
replace_entry-requires-clause-sorted c = sorted_keys c.args.items.now.slots c.args.keys.now.entries c.requires.kept.lists.entries

pub take_entry-requires-clause-sorted : goal.take_entry-requires-clause-sorted
take_entry-requires-clause-sorted c = sorted_keys c.args.items.now.slots c.args.keys.now.entries c.requires.kept.lists.entries

put : (c : After-replace_entry) → IsDone (seen c.replace_entry.new.items.slots c.replace_entry.new.keys.entries) c.args.marks.now.entries c.args.edit.now (seen c.args.items.now.slots c.args.keys.now.entries) c.args.marks.now.entries
put c =
    let es = seen c.args.items.now.slots c.args.keys.now.entries in
    let ms = c.args.marks.now.entries in
    let fs = seen c.replace_entry.new.items.slots c.replace_entry.new.keys.entries in
    subst (λ e. IsDone fs ms e es ms) (sym c.in-Put.is)
    (put_done es ms c.requires.kept.lists fs c.in-Put.slot c.in-Put.item c.replace_entry.ensures.seen (subst PutsOfSort c.in-Put.is c.requires.of_sort))

erase : (c : After-take_entry) → IsDone (seen c.take_entry.new.items.slots c.take_entry.new.keys.entries) c.args.marks.now.entries c.args.edit.now (seen c.args.items.now.slots c.args.keys.now.entries) c.args.marks.now.entries
erase c =
    let es = seen c.args.items.now.slots c.args.keys.now.entries in
    let ms = c.args.marks.now.entries in
    let fs = seen c.take_entry.new.items.slots c.take_entry.new.keys.entries in
    subst (λ e. IsDone fs ms e es ms) (sym c.in-Erase.is)
    (erase_done es ms c.requires.kept.lists fs c.in-Erase.slot c.take_entry.ensures.seen)

mark : (c : After-put) → IsDone (seen c.args.items.now.slots c.args.keys.now.entries) c.put.new.self.entries c.args.edit.now (seen c.args.items.now.slots c.args.keys.now.entries) c.args.marks.now.entries
mark c =
    let es = seen c.args.items.now.slots c.args.keys.now.entries in
    let ms = c.args.marks.now.entries in
    let ns = c.put.new.self.entries in
    subst (λ e. IsDone es ns e es ms) (sym c.in-Mark.is)
    (mark_done es ms c.requires.kept.lists ns c.in-Mark.cell c.put.ensures.entries)

unmark : (c : After-take_out) → IsDone (seen c.args.items.now.slots c.args.keys.now.entries) c.take_out.new.self.entries c.args.edit.now (seen c.args.items.now.slots c.args.keys.now.entries) c.args.marks.now.entries
unmark c =
    let es = seen c.args.items.now.slots c.args.keys.now.entries in
    let ms = c.args.marks.now.entries in
    let ns = c.take_out.new.self.entries in
    subst (λ e. IsDone es ns e es ms) (sym c.in-Unmark.is)
    (unmark_done es ms c.requires.kept.lists ns c.in-Unmark.cell c.take_out.ensures.entries)

pub returns-in-Put-clause-kept : goal.returns-in-Put-clause-kept
returns-in-Put-clause-kept c = record { keys = c.replace_entry.ensures.stored; lists = (put c).lists }

pub returns-in-Put-clause-contents : goal.returns-in-Put-clause-contents
returns-in-Put-clause-contents c = (put c).contents

pub returns-in-Erase-clause-kept : goal.returns-in-Erase-clause-kept
returns-in-Erase-clause-kept c = record { keys = c.take_entry.ensures.stored; lists = (erase c).lists }

pub returns-in-Erase-clause-contents : goal.returns-in-Erase-clause-contents
returns-in-Erase-clause-contents c = (erase c).contents

pub returns-in-Mark-clause-kept : goal.returns-in-Mark-clause-kept
returns-in-Mark-clause-kept c = record { keys = c.requires.kept.keys; lists = (mark c).lists }

pub returns-in-Mark-clause-contents : goal.returns-in-Mark-clause-contents
returns-in-Mark-clause-contents c = (mark c).contents

pub returns-in-Unmark-clause-kept : goal.returns-in-Unmark-clause-kept
returns-in-Unmark-clause-kept c = record { keys = c.requires.kept.keys; lists = (unmark c).lists }

pub returns-in-Unmark-clause-contents : goal.returns-in-Unmark-clause-contents
returns-in-Unmark-clause-contents c = (unmark c).contents
