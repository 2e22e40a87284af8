-- What a command line of the story program asks for, as `clap` reads it.
use Rattle.std.specs.Prelude.{List, [], ◌∷◌, codes, if◌then◌else◌, Option, Some, None, bytes_eq, option_map, option_and_then}
use Rattle.clap.specs.Words.{App, Row, Text, fault_of, new_app, subcommand_of, with_rule, with_subcommand}
use Rattle.clap.specs.Kinds.{Kinds, or_else}
use Rattle.clap.specs.declared.error.kind.ErrorKind.{ErrorKind}
use Rattle.pb_texts.specs.declared.words.choice.StoryOptions.{StoryOptions}
use Rattle.pb_texts.specs.CommandLines.{required_rule, profile_rule, record_rule, needs_subcommand, replay_in, check_in, Request, replay_request, check_request}
use Rattle.pb_texts.specs.declared.words.choice.Excerpt.{Excerpt}
use Rattle.pb_texts.specs.ExcerptWords.{story_replay_app, excerpt_in}
use Rattle.pb_texts.specs.TrialWords.{TrialRequest, trial_app, trial_in, trial_request}

-- `frames FILE [--profile N] [--record N]`
abbrev pub frames_app : App
frames_app = with_rule (with_rule (with_rule (new_app (codes "frames")) (required_rule (codes "FILE"))) profile_rule) record_rule

-- the story program, which needs a subcommand
abbrev pub story_app : App
story_app = with_subcommand (with_subcommand (with_subcommand (needs_subcommand (new_app (codes "percobpf_story"))) frames_app.top) story_replay_app.top) trial_app.top

-- what a command line can ask for: what `check` of the first program may be asked for, what its `replay` may, with the events
-- whose lines are printed, or a trial
pub data StoryRequest : Type 0 where
  Known : Request → StoryRequest
  Replayed : Request → Excerpt → StoryRequest
  Tried : TrialRequest → StoryRequest

-- what the matches of `replay` ask for
abbrev pub story_replay_in : List Row → Option StoryRequest
story_replay_in rows = option_and_then (λ files. option_map (Replayed files) (excerpt_in rows)) (replay_in rows)

-- what the matches of a subcommand that tries nothing ask for: `frames` for what `check` does with the same words
abbrev pub known_in : Option (Text × List Row) → Option StoryRequest
known_in None = None
known_in (Some p) =
    if bytes_eq p.0 (codes "frames") then option_map Known (check_in p.1)
    else if bytes_eq p.0 (codes "replay") then story_replay_in p.1
    else None

-- what a subcommand with its matches asks for
abbrev pub story_in : Option (Text × List Row) → Option StoryRequest
story_in None = None
story_in (Some p) =
    if bytes_eq p.0 (codes "trial") then option_map Tried (trial_in p.1)
    else known_in (Some p)

abbrev pub story_of : List Text → Option StoryRequest
story_of words = story_in (subcommand_of story_app words)

-- the fault of words that ask for nothing
abbrev pub no_request_fault : Option StoryRequest → Kinds
no_request_fault None = ErrorKind.ValueValidation ∷ []
no_request_fault (Some r) = []

-- the fault that `clap` finds, or that of what it takes and isn't read: a number not in digits alone, no cell or value of a script, or
-- no first and last event
abbrev pub story_fault : List Text → Kinds
story_fault words = or_else (fault_of story_app words) (no_request_fault (story_of words))

abbrev pub story_request : StoryOptions → StoryRequest
story_request (StoryOptions.Frames file) = Known (check_request file)
story_request (StoryOptions.Replay files excerpt) = Replayed (replay_request files) excerpt
story_request (StoryOptions.Trial trial) = Tried (trial_request trial)
