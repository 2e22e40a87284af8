use Rattle.percobpf_keep.proofs.questions.open_once.Goals as goal

pub returns-in-Ok-clause-made : goal.returns-in-Ok-clause-made
returns-in-Ok-clause-made c = λ written clean.
    (c.in_ok-keeper.keeper.state.observers, c.in_ok-keeper.ensures.manifest, (_, c.in-Ok.ensures.made written clean))
