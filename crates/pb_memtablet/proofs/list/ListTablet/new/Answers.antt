use Rattle.std.proofs.Common.{[], ap, ◌∙◌}
use Rattle.pb_memtablet.specs.Listed.{contents_of}
use Rattle.pb_memtablet.proofs.Edits.{contents_of-nothing}
use Rattle.pb_memtablet.proofs.list.ListTablet.new.Goals as goal

pub returns : goal.returns
returns c = ap (λ es. contents_of es c.new-2.result.entries) c.new.ensures.entries ∙ ap (contents_of []) c.new-2.ensures.entries ∙ contents_of-nothing
