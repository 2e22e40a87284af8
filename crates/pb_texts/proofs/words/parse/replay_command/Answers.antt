use Rattle.pb_texts.proofs.words.parse.replay_command.Goals as goal

pub returns : goal.returns
returns c = c.with_arg.ensures _ _ (c.with_arg-scheduled.ensures _ _ c.scripted_command-scripted.ensures c.operand.ensures.rule) c.clock_option.ensures.rule
