use Rattle.std.proofs.Common.{[], ap, ◌∙◌}
use Rattle.pb_memtablet.specs.Listed.{contents_of}
use Rattle.pb_memtablet.specs.Stored.{seen}
use Rattle.pb_memtablet.proofs.Edits.{contents_of-nothing}
use Rattle.pb_memtablet.proofs.slab_tablet.SlabTablet.new.Goals as goal

pub returns : goal.returns
returns c = ap (λ ks. contents_of (seen c.new-2.result.slots ks) c.new-3.result.entries) c.new.ensures.entries ∙ ap (contents_of []) c.new-3.ensures.entries ∙ contents_of-nothing
