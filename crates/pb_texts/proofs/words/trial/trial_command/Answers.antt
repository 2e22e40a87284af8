use Rattle.pb_texts.proofs.words.trial.trial_command.Goals as goal

pub returns : goal.returns
returns c = c.with_arg-2.ensures _ _ (c.with_arg-profiled.ensures _ _ (c.with_arg.ensures _ _ (c.with_arg-with_old.ensures _ _ c.change_command.ensures c.text_option.ensures.rule) c.cell_option.ensures.rule) c.profile_option.ensures.rule) c.record_option.ensures.rule
