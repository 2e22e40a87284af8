use Rattle.std.proofs.Common.{[], ap, ◌∙◌}
use Rattle.pb_memtablet.specs.Listed.{contents_of}
use Rattle.pb_memtablet.proofs.Edits.{contents_of-nothing}
use Rattle.pb_memtablet.proofs.list.ListTabletTablet.clear.Goals as goal

pub returns : goal.returns
returns c = ap (λ es. contents_of es c.clear-2.new.self.entries) c.clear.ensures.entries ∙ ap (contents_of []) c.clear-2.ensures.entries ∙ contents_of-nothing
