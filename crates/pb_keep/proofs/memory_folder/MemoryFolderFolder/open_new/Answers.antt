use Rattle.std.proofs.Common.{refl, sym, ◌∙◌}
use Rattle.pb_keep.proofs.Replacing.{only_there}
use Rattle.pb_keep.proofs.memory_folder.MemoryFolderFolder.open_new.Goals as goal

pub returns-in-Some-clause-fresh : goal.returns-in-Some-clause-fresh
returns-in-Some-clause-fresh c = only_there _ _ c.args.self.now.file c.in-Some.file (sym c.call.ensures.file ∙ sym c.take.ensures.value ∙ c.in-Some.is) (c.requires.durable refl)
