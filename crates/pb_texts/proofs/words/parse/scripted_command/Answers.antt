use Rattle.pb_texts.proofs.words.parse.scripted_command.Goals as goal

pub returns : goal.returns
returns c = c.with_arg.ensures _ _ (c.with_arg-with_manifest.ensures _ _ (c.bare_command.ensures.app, c.bare_command.ensures.local) c.operand.ensures.rule) c.operand-2.ensures.rule
