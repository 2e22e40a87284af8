use Rattle.pb_texts.proofs.words.parse.asm_command.Goals as goal

pub returns : goal.returns
returns c = c.with_arg-3.ensures _ _ (c.with_arg-2.ensures _ _ (c.with_arg.ensures _ _ (c.bare_command.ensures.app, c.bare_command.ensures.local) c.operand-input.ensures.rule) c.operand-output.ensures.rule) c.profile_option.ensures.rule
