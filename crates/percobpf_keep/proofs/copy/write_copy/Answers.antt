use Rattle.percobpf_keep.proofs.copy.write_copy.Goals as goal

pub returns-clause-copied : goal.returns-clause-copied
returns-clause-copied c = record { is_printed = c.in_ok-line.ensures.line; copied = c.in_ok-line.ensures.copied }
