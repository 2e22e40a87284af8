use Rattle.std.proofs.Common.{sym, subst}
use Rattle.pb_memtablet.specs.Words.{PutsOfSort}
use Rattle.pb_memtablet.proofs.Edits.{IsDone, put_done, erase_done, mark_done, unmark_done}
use Rattle.pb_memtablet.proofs.list.change.Goals as goal
use Rattle.pb_memtablet.proofs.list.change.Goals.{After-put, After-take_out, After-put-in-Mark, After-take_out-in-Unmark}

put : (c : After-put) → IsDone c.put.new.self.entries c.args.marks.now.entries c.args.edit.now c.args.entries.now.entries c.args.marks.now.entries
put c = subst (λ e. IsDone c.put.new.self.entries c.args.marks.now.entries e c.args.entries.now.entries c.args.marks.now.entries) (sym c.in-Put.is)
    (put_done c.args.entries.now.entries c.args.marks.now.entries c.requires.lists c.put.new.self.entries c.in-Put.slot c.in-Put.item c.put.ensures.entries
    (subst PutsOfSort c.in-Put.is c.requires.of_sort))

erase : (c : After-take_out) → IsDone c.take_out.new.self.entries c.args.marks.now.entries c.args.edit.now c.args.entries.now.entries c.args.marks.now.entries
erase c = subst (λ e. IsDone c.take_out.new.self.entries c.args.marks.now.entries e c.args.entries.now.entries c.args.marks.now.entries) (sym c.in-Erase.is)
    (erase_done c.args.entries.now.entries c.args.marks.now.entries c.requires.lists c.take_out.new.self.entries c.in-Erase.slot c.take_out.ensures.entries)

mark : (c : After-put-in-Mark) → IsDone c.args.entries.now.entries c.put-in-Mark.new.self.entries c.args.edit.now c.args.entries.now.entries c.args.marks.now.entries
mark c = subst (λ e. IsDone c.args.entries.now.entries c.put-in-Mark.new.self.entries e c.args.entries.now.entries c.args.marks.now.entries) (sym c.in-Mark.is)
    (mark_done c.args.entries.now.entries c.args.marks.now.entries c.requires.lists c.put-in-Mark.new.self.entries c.in-Mark.cell c.put-in-Mark.ensures.entries)

unmark : (c : After-take_out-in-Unmark) → IsDone c.args.entries.now.entries c.take_out-in-Unmark.new.self.entries c.args.edit.now c.args.entries.now.entries c.args.marks.now.entries
unmark c = subst (λ e. IsDone c.args.entries.now.entries c.take_out-in-Unmark.new.self.entries e c.args.entries.now.entries c.args.marks.now.entries) (sym c.in-Unmark.is)
    (unmark_done c.args.entries.now.entries c.args.marks.now.entries c.requires.lists c.take_out-in-Unmark.new.self.entries c.in-Unmark.cell c.take_out-in-Unmark.ensures.entries)

pub returns-in-Put-clause-lists : goal.returns-in-Put-clause-lists
returns-in-Put-clause-lists c = (put c).lists

pub returns-in-Put-clause-contents : goal.returns-in-Put-clause-contents
returns-in-Put-clause-contents c = (put c).contents

pub returns-in-Erase-clause-lists : goal.returns-in-Erase-clause-lists
returns-in-Erase-clause-lists c = (erase c).lists

pub returns-in-Erase-clause-contents : goal.returns-in-Erase-clause-contents
returns-in-Erase-clause-contents c = (erase c).contents

pub returns-in-Mark-clause-lists : goal.returns-in-Mark-clause-lists
returns-in-Mark-clause-lists c = (mark c).lists

pub returns-in-Mark-clause-contents : goal.returns-in-Mark-clause-contents
returns-in-Mark-clause-contents c = (mark c).contents

pub returns-in-Unmark-clause-lists : goal.returns-in-Unmark-clause-lists
returns-in-Unmark-clause-lists c = (unmark c).lists

pub returns-in-Unmark-clause-contents : goal.returns-in-Unmark-clause-contents
returns-in-Unmark-clause-contents c = (unmark c).contents
