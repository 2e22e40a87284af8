use Rattle.std.proofs.Common.{rules, codes, ◌≡◌, false}
use Rattle.clap.specs.Words.{app_of, new_app}
use Rattle.clap.specs.declared.builder.command.Command.TheViews.{out-Command as fields_of}
use Rattle.pb_texts.proofs.words.story.frames_command.Goals as goal

pub returns : goal.returns
returns c =
    let bare : app_of c.about.result ≡ new_app (codes "frames") = search rules in
    let local : (fields_of c.about.result).has_globals ≡ false = search rules in
    c.with_arg-2.ensures _ _ (c.with_arg-profiled.ensures _ _ (c.with_arg.ensures _ _ (bare, local) c.file_operand.ensures.rule) c.profile_option.ensures.rule) c.record_option.ensures.rule
