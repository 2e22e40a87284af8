use Rattle.pb_memtablet.proofs.Spots.{true_holds}
use Rattle.pb_memtablet.proofs.Nearest.{next_after, next_first}
use Rattle.pb_memtablet.proofs.list.next_in.Goals as goal

pub returns-in-Some : goal.returns-in-Some
returns-in-Some c = rw (c.in-Some.is, c.marked_cell.ensures) (next_after c.args.marks.now.entries (true_holds _ c.requires) c.in-Some.cell c.first_above.result c.first_above.ensures)

pub returns-in-None : goal.returns-in-None
returns-in-None c = rw (c.in-None.is, c.marked_cell-in-None.ensures) (next_first c.args.marks.now.entries (true_holds _ c.requires) c.at.result c.at.ensures)
