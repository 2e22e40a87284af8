use Rattle.std.proofs.Common.{string_bytes, subst, sym}
use Rattle.percobpf_keep.specs.Printed.{IsCopyLine}
use Rattle.percobpf_keep.proofs.copy.open_and_copy.Goals as goal

pub returns : goal.returns
returns c = record { line = subst (λ l. IsCopyLine (string_bytes l)) (sym c.close_copy.ensures) c.in_ok-copied.ensures.copied.is_printed }
