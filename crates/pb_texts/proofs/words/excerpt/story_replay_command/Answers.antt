use Rattle.std.proofs.Common.{rules, ◌≡◌, false}
use Rattle.clap.specs.Words.{app_of}
use Rattle.clap.specs.declared.builder.command.Command.TheViews.{out-Command as fields_of}
use Rattle.pb_texts.specs.CommandLines.{replay_app}
use Rattle.pb_texts.proofs.words.excerpt.story_replay_command.Goals as goal

pub returns : goal.returns
returns c =
    let bare : app_of c.about-replay.result ≡ replay_app = search rules in
    let local : (fields_of c.about-replay.result).has_globals ≡ false = search rules in
    c.with_arg-2.ensures _ _ (c.with_arg.ensures _ _ (bare, local) c.events_option.ensures.rule) c.idle_option.ensures.rule
