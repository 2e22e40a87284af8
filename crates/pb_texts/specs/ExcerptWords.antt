-- What the words of `percobpf_story replay` ask for beside a replay, as `clap` reads them: the events whose lines are printed.
use Rattle.std.specs.Prelude.{ℕ, ◌-◌, ◌^◌, ◌==◌, Bool, false, nat_le, if◌then◌else◌, List, codes, Option, Some, None, option_map, option_and_then, bytes_eq}
use Rattle.std.specs.List.{before_first, after_first}
use Rattle.std.specs.Option.{option_map_or}
use Rattle.clap.specs.Words.{App, Row, Rule, Text, first_of, new_rule, with_rule}
use Rattle.clap.specs.declared.builder.action.ArgAction.TheVariants.{SetTrue}
use Rattle.pb_texts.specs.CommandLines.{replay_app}
use Rattle.pb_texts.specs.TrialWords.{text_rule, numeral_named}
use Rattle.pb_texts.specs.declared.words.choice.Excerpt.{Excerpt}

-- ---- the subcommand

-- `--events A-B`
abbrev pub events_rule : Rule
events_rule = text_rule (codes "events")

-- `--idle`, which has no value
abbrev pub idle_rule : Rule
idle_rule = record (new_rule (codes "idle")) { long = Some (codes "idle"); action = Some SetTrue }

-- `replay MANIFEST SCRIPT SCHEDULE [--clock N] [--events A-B] [--idle]`
abbrev pub story_replay_app : App
story_replay_app = with_rule (with_rule replay_app events_rule) idle_rule

-- ---- what is read of its words

-- the number of an event: digits without a zero before them
abbrev pub event_named : Text → Option ℕ
event_named text = numeral_named (2 ^ 64 - 1) text

-- these two, unless the first is greater than the last
abbrev pub in_order : ℕ → ℕ → Option (ℕ × ℕ)
in_order first last = if nat_le first last then Some (first, last) else None

abbrev pub is_hyphen : ℕ → Bool
is_hyphen b = b == 45

-- `A-B`: the numbers before and after the first hyphen. After none stands nothing, which is no number.
abbrev pub span_named : Text → Option (ℕ × ℕ)
span_named text =
    option_and_then (λ first. option_and_then (in_order first)
    (event_named (after_first is_hyphen text))) (event_named (before_first is_hyphen text))

-- the first and the last event that a text names; all events where there is no text
abbrev pub span_of : Option Text → Option (ℕ × ℕ)
span_of None = Some (0, 2 ^ 64 - 1)
span_of (Some text) = span_named text

-- an option without a value is there: `clap` reads it as `true`, and as `false` where it isn't there
abbrev pub has_flag : Text → List Row → Bool
has_flag name rows = option_map_or (λ text. bytes_eq text (codes "true")) (first_of name rows) false

abbrev pub excerpt_of : Bool → ℕ × ℕ → Excerpt
excerpt_of idle events = record { first = events.0; last = events.1; idle = idle }

-- the events whose lines the matches of `replay` ask for
abbrev pub excerpt_in : List Row → Option Excerpt
excerpt_in rows = option_map (excerpt_of (has_flag (codes "idle") rows)) (span_of (first_of (codes "events") rows))
