-- What a command of the story program leaves: its status, its output and the line of its fault. No path is written.
use Rattle.std.specs.Prelude.{ℕ, Result}
use Rattle.pb_texts.specs.declared.words.choice.StoryOptions.{StoryOptions}
use Rattle.pb_files.specs.declared.answer.Verdict.{Verdict}
use Rattle.pb_command.specs.declared.fault.Fault.{Fault}
use Rattle.pb_base.specs.Taking.{Taking}
use Rattle.pb_story.specs.Frames.{frames_text}
use Rattle.pb_files.specs.Files.{Held, Filing, KeepsFiles}
use Rattle.pb_files.specs.Programs.{AnswerLeaves, TellsProgram}
use Rattle.pb_command.specs.Commands.{FilesLeave, ReplayLeaves, IsToldAs}
use Rattle.percobpf_story.specs.Replays.{TellsTexts}
use Rattle.percobpf_story.specs.Trials.{Tries}

-- What is left on the output where a command ended so, with a table of so many tablets. What is known before a slot is the same for every version.
abbrev pub StoryLeaves : StoryOptions → ℕ → Held → Taking → Result Verdict Fault → Type 0
StoryLeaves (StoryOptions.Frames program) places before out outcome = FilesLeave (AnswerLeaves (TellsProgram frames_text program.profile) (before program.file.now) program.file.now out) outcome
StoryLeaves (StoryOptions.Replay files excerpt) places before out outcome = ReplayLeaves (TellsTexts excerpt places) before files out outcome
StoryLeaves (StoryOptions.Trial trial) places before out outcome = FilesLeave (AnswerLeaves (Tries trial) (before trial.program.file.now) trial.program.file.now out) outcome

-- how a command ended, as its status and the line of its fault show it
pub record StoryCommands (options : StoryOptions) (places : ℕ) (files : Filing) (out err : Taking) (status : ℕ) : Type 0 where
  pub outcome : Result Verdict Fault
  pub kept : KeepsFiles files
  pub leaves : StoryLeaves options places files.before out outcome
  pub tells : IsToldAs outcome err status
