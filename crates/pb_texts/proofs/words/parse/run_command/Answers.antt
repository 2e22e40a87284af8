use Rattle.pb_texts.proofs.words.parse.run_command.Goals as goal

pub returns : goal.returns
returns c = c.with_arg.ensures _ _ (c.with_arg-crewed.ensures _ _ c.scripted_command-scripted.ensures c.number_option.ensures.rule) c.number_option-2.ensures.rule
