use Rattle.pb_texts.proofs.words.trial.change_command.Goals as goal

pub returns : goal.returns
returns c =
    let filed = c.with_arg-filed.ensures _ _ (c.bare_trial.ensures.app, c.bare_trial.ensures.local) c.file_operand.ensures.rule in
    let rowed = c.with_arg-rowed.ensures _ _ filed c.needed_option.ensures.rule in
    let placed = c.with_arg-placed.ensures _ _ rowed c.needed_option-2.ensures.rule in
    c.with_arg.ensures _ _ placed c.needed_option-3.ensures.rule
