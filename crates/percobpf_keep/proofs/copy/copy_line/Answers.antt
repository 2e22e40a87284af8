use Rattle.std.proofs.Common.{ap, ◌∙◌}
use Rattle.percobpf_keep.specs.Printed.{printed_text}
use Rattle.percobpf_keep.specs.declared.printed.Printed.{Printed}
use Rattle.percobpf_keep.proofs.copy.copy_line.Goals as goal

pub returns-clause-copied : goal.returns-clause-copied
returns-clause-copied g c = λ clean clean_copy origin changes log.
    let its = c.in_ok-count.ensures.copied origin changes log clean clean_copy in
    (its.0, c.in_ok-line.ensures ∙ ap (λ n. printed_text (Printed.Copied n)) its.1)
