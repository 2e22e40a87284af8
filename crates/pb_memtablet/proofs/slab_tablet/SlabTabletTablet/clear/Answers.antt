use Rattle.std.proofs.Common.{[], ap, ◌∙◌}
use Rattle.pb_memtablet.specs.Listed.{contents_of}
use Rattle.pb_memtablet.specs.Stored.{seen}
use Rattle.pb_memtablet.proofs.Edits.{contents_of-nothing}
use Rattle.pb_memtablet.proofs.slab_tablet.SlabTabletTablet.clear.Goals as goal

pub returns : goal.returns
returns c = ap (λ ks. contents_of (seen c.clear-2.new.self.slots ks) c.clear-3.new.self.entries) c.clear.ensures.entries ∙ ap (contents_of []) c.clear-3.ensures.entries ∙ contents_of-nothing
