use Rattle.pb_story.proofs.Trials.{replies_on, ends_now}
use Rattle.pb_story.proofs.trial.run_to_end.Goals as goal

pub loop-ask-preserved : goal.loop-ask-preserved
loop-ask-preserved c =
    replies_on c.loop-ask.vm c.step.new.self c.reply.new.self c.in-Asks.ask c.reply_in.result c.in-Asks.ensures.moves c.reply.ensures.replied
    c.args.trial.now c.args.vm.now c.loop-ask.invariant c.reply_in.ensures

pub returns-in-Ended-clause-ends : goal.returns-in-Ended-clause-ends
returns-in-Ended-clause-ends c = ends_now c.loop-ask.vm c.step.new.self c.in-Ended.field-0 c.in-Ended.ensures.moves
