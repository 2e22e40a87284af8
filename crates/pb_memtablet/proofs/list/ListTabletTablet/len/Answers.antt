use Rattle.std.proofs.Common.{arith}
use Rattle.pb_memtablet.proofs.Answered.{len-listed}
use Rattle.pb_memtablet.proofs.list.ListTabletTablet.len.Goals as goal

pub returns : goal.returns
returns c = grind (arith, len-listed, c.len.ensures.len, c.self.inside.entries.entries, c.self.inside.marks.entries, c.self.invariant, c.self.view_is)
