use Rattle.percobpf_keep.proofs.questions.open_as_far.Given as goal

-- each try makes fewer changes than the one before
abbrev pub decreases-tries : goal.decreases-tries
decreases-tries l = l.most
