use Rattle.std.proofs.Common.{◌∙◌, string_bytes, refl}
use Rattle.pb_story.proofs.Trials.{trial_text_is}
use Rattle.pb_story.proofs.trial.trial_text.Goals as goal

pub returns : goal.returns
returns c =
    let ran = c.run_to_end.ensures in
    let began = c.in_ok-vm.ensures in
    trial_text_is c.args.accepted.now.value c.args.trial.now c.version.result c.in_ok-vm.vm c.run_to_end.new.vm c.finish-finished.result (string_bytes c.add_run.new.text)
    (cc) began.judged (cc) (cc) ran.given ran.replies ran.ends c.finish-finished.ensures
    (c.in_ok-add_run.ensures ∙ rw (c.new-text.ensures.bytes, c.taken-done.ensures.taken) refl)
