use Rattle.std.proofs.Common.{sym, ◌∙◌}
use Rattle.pb_state.specs.Words.{value_code}
use Rattle.pb_state.proofs.SameRuns.{same_by_test, true_and}
use Rattle.pb_state.proofs.observed.is_replied.Goals as goal

pub returns : goal.returns
returns c = true_and _ _ _ (sym c.is_read_of.ensures ∙ c.if-not-is_read_of.false) (same_by_test value_code _ _ c.is_told.result c.is_told.ensures)
