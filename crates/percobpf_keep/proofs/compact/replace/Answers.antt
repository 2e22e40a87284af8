use Rattle.std.proofs.Common.{◌∙◌}
use Rattle.percobpf_keep.proofs.OneManifest.{same_observers}
use Rattle.percobpf_keep.proofs.compact.replace.Goals as goal

pub returns-in-Ok-clause-observers : goal.returns-in-Ok-clause-observers
returns-in-Ok-clause-observers c =
    c.in-Ok.ensures.observers ∙ same_observers c.either_program_or_fault.ensures.one_program c.args.manifest.now c.in_ok-state.state.observers c.args.keeper.now.state.observers c.in_ok-state.ensures.manifest c.requires.manifest
