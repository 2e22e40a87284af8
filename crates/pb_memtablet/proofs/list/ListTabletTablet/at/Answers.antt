use Rattle.std.proofs.Common.{arith}
use Rattle.pb_memtablet.proofs.Answered.{entries-listed, of_sort_there}
use Rattle.pb_memtablet.proofs.list.ListTabletTablet.at.Goals as goal

pub returns-clause-entry : goal.returns-clause-entry
returns-clause-entry c = grind (arith, entries-listed, c.at.ensures, c.args.place, c.self.inside.entries.entries, c.self.inside.marks.entries, c.self.invariant, c.self.view_is)

pub returns-clause-sort : goal.returns-clause-sort
returns-clause-sort c = grind (arith, of_sort_there, c.at.ensures, c.self.inside.entries.entries, c.args.place, c.self.invariant.of_sort)
