use Rattle.std.proofs.Common.{◌∙◌, Some, Ok, Err, ap, codes}
use Rattle.clap.specs.Words.{found_of}
use Rattle.clap.proofs.WalkLemmas.{one_text-rows}
use Rattle.pb_texts.proofs.Clocks.{clock_read}
use Rattle.pb_texts.specs.CommandLines.{clock_of}
use Rattle.pb_texts.proofs.words.parse.clock_in.Goals as goal

pub returns-in-Ok : goal.returns-in-Ok
returns-in-Ok c =
    ap (λ n. Some n) c.unwrap_or.ensures
    ∙ clock_read _ (Ok c.in-Ok.clock) c.in-Ok.ensures.none c.in-Ok.ensures.value
    ∙ ap clock_of (one_text-rows (found_of c.args.replay.now) (codes "clock"))

pub returns-in-Err : goal.returns-in-Err
returns-in-Err c =
    clock_read _ (Err c.in-Err.field-0) c.in-Err.ensures.none c.in-Err.ensures.value
    ∙ ap clock_of (one_text-rows (found_of c.args.replay.now) (codes "clock"))
