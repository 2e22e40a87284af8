use Rattle.pb_texts.proofs.words.parse.check_command.Goals as goal

pub returns : goal.returns
returns c = c.with_arg-2.ensures _ _ (c.with_arg-profiled.ensures _ _ (c.with_arg.ensures _ _ (c.bare_command.ensures.app, c.bare_command.ensures.local) c.file_operand.ensures.rule) c.profile_option.ensures.rule) c.record_option.ensures.rule
