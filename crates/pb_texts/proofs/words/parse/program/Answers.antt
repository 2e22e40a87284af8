use Rattle.pb_texts.proofs.words.parse.program.Goals as goal

pub returns : goal.returns
returns c =
    let runs = c.with_command-runs.ensures _ _ c.bare_program.ensures c.run_command.ensures in
    let replays = c.with_command-replays.ensures _ _ runs c.replay_command.ensures in
    let assembles = c.with_command-assembles.ensures _ _ replays c.asm_command.ensures in
    let lists = c.with_command-lists.ensures _ _ assembles c.dis_command.ensures in
    c.with_command.ensures _ _ lists c.check_command.ensures
