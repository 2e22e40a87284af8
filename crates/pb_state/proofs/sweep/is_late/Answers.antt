use Rattle.std.proofs.Common.{sym, ap, ◌∙◌}
use Rattle.std.proofs.lemmas.Bool.{eqb-true}
use Rattle.pb_state.specs.Words.{ObserverOf}
use Rattle.pb_state.proofs.SameRuns.{not_ne}
use Rattle.pb_state.proofs.sweep.is_late.Goals as goal

pub returns-then-stamp-commit : goal.returns-then-stamp-commit
returns-then-stamp-commit g c = (
  sym (ap (λ (o : ObserverOf). o.column) c.observer.view_is) ∙ eqb-true _ _ (not_ne _ _ c.ne.ensures c.if-ne.false),
  c.newest_stamp-stamp.result.0,
  c.newest_stamp-stamp.ensures,
  c.if-stamp-commit.true,
)
