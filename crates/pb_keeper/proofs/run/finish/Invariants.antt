use Rattle.pb_keeper.specs.Words.{RunOf, StateOf}
use Rattle.pb_keeper.specs.Runs.{HasPlanned}
use Rattle.pb_keeper.specs.Stats.{RanSoFar}
use Rattle.pb_keeper.proofs.Turns.{late_left}
use Rattle.pb_keeper.proofs.run.finish.Given as goal

abbrev pub invariant-loop-end : goal.invariant-loop-end
invariant-loop-end g l = record {
  late : HasPlanned l.job.place;
  on : (first : RunOf) (start : StateOf) → RanSoFar first l.initial.job l.initial.stats start l.initial.state → RanSoFar first l.job l.stats start l.state;
}

abbrev pub decreases-loop-end : goal.decreases-loop-end
decreases-loop-end g l = late_left l.job
