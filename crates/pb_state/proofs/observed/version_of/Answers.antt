use Rattle.std.proofs.Common.{ap, sym, ◌∙◌}
use Rattle.pb_state.specs.Words.{JudgedOf}
use Rattle.pb_state.proofs.observed.version_of.Goals as goal
use Rattle.pb_helpers.proofs.Versions.{second_is}

pub returns : goal.returns
returns c = second_is c.args.program.now.value c.version.result (ap (λ (j : JudgedOf). j.record_size) (sym c.deref.ensures) ∙ c.version.ensures)
