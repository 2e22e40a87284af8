use Rattle.std.proofs.Common.{arith}
use Rattle.pb_notify.proofs.Kept.{at_after}
use Rattle.pb_notify.proofs.job.ObserverJob.took.Goals as goal

pub invariant_of-self-2 : goal.invariant_of-self-2
invariant_of-self-2 c = grind (arith, at_after, c.self.inside, c.args.answer, c.take_answer.new.place, c.take_answer.ensures.place, c.tells_old-second.ensures, c.keep_step.ensures, c.locked_at-locked.ensures, c.self.invariant.at)
