-- How a trial answers on a program's bytes. `try_file` promises it, as `check_file` what `check` answers.
use Rattle.pb_isa.specs.Programs.{JudgedOf}
use Rattle.pb_helpers.specs.Table.{all_helpers}
use Rattle.pb_registry.specs.Accepting.{IsAcceptedCode}
use Rattle.pb_texts.specs.declared.words.choice.Trial.{Trial}
use Rattle.pb_files.specs.declared.answer.Verdict.{Verdict}
use Rattle.pb_files.specs.Programs.{Judges, Checks}
use Rattle.pb_story.specs.Trials.{IsTrialText}

-- the text of the run, where `check` accepts the program; else what `check` prints
abbrev pub Tries : Trial → Judges
Tries t bytes Verdict.Accepted text = (j : JudgedOf) × IsAcceptedCode t.program.profile t.program.version bytes all_helpers j × IsTrialText j t text
Tries t bytes Verdict.Refused text = Checks t.program.profile t.program.version bytes Verdict.Refused text
