use Rattle.std.proofs.Common.{arith}
use Rattle.pb_memtablet.proofs.Answered.{len-listed}
use Rattle.pb_memtablet.proofs.Kept.{length-seen}
use Rattle.pb_memtablet.proofs.slab_tablet.SlabTabletTablet.len.Goals as goal

pub returns : goal.returns
returns c = grind (arith, length-seen, len-listed, c.len.ensures.len, c.self.inside.items.slots, c.self.inside.keys.entries, c.self.inside.marks.entries, c.self.invariant.lists, c.self.view_is)
