use Rattle.pb_keeper.specs.Words.{IsPlanning, RunOf, StateOf}
use Rattle.pb_keeper.specs.Stats.{RanSoFar}
use Rattle.pb_keeper.proofs.Turns.{early_left}
use Rattle.pb_keeper.proofs.run.go_to_plan.Given as goal

abbrev pub invariant-loop-end : goal.invariant-loop-end
invariant-loop-end g l = record {
  early : IsPlanning l.job.place → ⊥;
  on : (first : RunOf) (start : StateOf) → RanSoFar first l.initial.job l.initial.stats start l.initial.state → RanSoFar first l.job l.stats start l.state;
}

abbrev pub decreases-loop-end : goal.decreases-loop-end
decreases-loop-end g l = early_left l.job
