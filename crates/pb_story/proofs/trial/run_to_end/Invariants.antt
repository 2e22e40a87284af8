use Rattle.std.proofs.Common.{◌-◌}
use Rattle.pb_story.specs.Words.{slots}
use Rattle.pb_story.proofs.Trials.{IsTrying}
use Rattle.pb_story.proofs.trial.run_to_end.Given as goal

abbrev pub invariant-loop-ask : goal.invariant-loop-ask
invariant-loop-ask l = IsTrying l.trial l.fn.vm l.vm

abbrev pub decreases-loop-ask : goal.decreases-loop-ask
decreases-loop-ask l = slots l.vm.judged.program.insns - l.vm.taken
