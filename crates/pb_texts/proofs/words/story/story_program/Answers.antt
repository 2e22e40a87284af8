use Rattle.pb_texts.proofs.words.story.story_program.Goals as goal

pub returns : goal.returns
returns c =
    let frames = c.with_command-frames.ensures _ _ c.bare_story_program.ensures c.frames_command.ensures in
    let replays = c.with_command-replays.ensures _ _ frames c.story_replay_command.ensures in
    c.with_command.ensures _ _ replays c.trial_command.ensures
