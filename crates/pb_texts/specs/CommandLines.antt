-- What a command line asks for, as `clap` reads it.
use Rattle.std.specs.Prelude.{◌≡◌, ◌≤◌, ◌-◌, ℕ, Bool, true, false, not, ◌==◌, ◌&&◌, ◌||◌, nat_le, if◌then◌else◌, List, [], ◌∷◌, ◌++◌, codes, Option, Some, None, option_map, option_and_then, bytes_eq}
use Rattle.std.specs.Option.{option_map_or}
use Rattle.std.specs.Str.Parse.{digits_value, without_leading_plus}
use Rattle.clap.specs.Words.{App, Row, Rule, Text, fault_of, first_of, new_app, new_rule, one_of, subcommand_of, with_rule, with_subcommand}
use Rattle.clap.specs.ValueTests.{is_numeral, is_unsigned_in}
use Rattle.clap.specs.Kinds.{Kinds, or_else}
use Rattle.clap.specs.declared.builder.value_parser.ValueParser.{ValueParser}
use Rattle.clap.specs.declared.error.kind.ErrorKind.{ErrorKind}
use Rattle.clap.specs.Simple.{on_top}
use Rattle.pb_base.specs.declared.limits.TheConstants.{MAX_SEATS}
use Rattle.pb_isa.specs.declared.profile.Profile.{Profile}
use Rattle.pb_helpers.specs.declared.change.Version.{Version}
use Rattle.pb_texts.specs.declared.words.choice.Options.{Options}
use Rattle.pb_texts.specs.declared.words.choice.ReplayFiles.{ReplayFiles}
use Rattle.pb_texts.specs.declared.words.choice.ProgramFile.{ProgramFile}

abbrev pub required_rule : Text → Rule
required_rule id = record (new_rule id) { required = true }

-- an option whose value is a number from `low` to `high`
abbrev pub number_rule : Text → ℕ → ℕ → Rule
number_rule name low high = record (new_rule name) { long = Some name; value_names = 1; parser = Some (ValueParser.Unsigned low high) }

-- the first seat is the main thread's
abbrev pub most_workers : ℕ
most_workers = MAX_SEATS - 1

-- as many swaps as a run may be asked for
abbrev pub most_swaps : ℕ
most_swaps = 1000

-- `--workers N`, where N is as many workers as there are seats for
abbrev pub workers_rule : Rule
workers_rule = number_rule (codes "workers") 1 most_workers

-- `--swaps M`, where M is as many swaps as a run may be asked for
abbrev pub swaps_rule : Rule
swaps_rule = number_rule (codes "swaps") 0 most_swaps

-- a subcommand that takes a manifest and a script
abbrev pub scripted_app : Text → App
scripted_app name = with_rule (with_rule (new_app name) (required_rule (codes "MANIFEST"))) (required_rule (codes "SCRIPT"))

-- `run MANIFEST SCRIPT [--workers N] [--swaps M]`
abbrev pub run_app : App
run_app = with_rule (with_rule (scripted_app (codes "run")) workers_rule) swaps_rule

-- the greatest number of `u64`
abbrev pub last_clock : ℕ
last_clock = 18446744073709551615

-- `--clock N`, where N is a number of `u64`
abbrev pub clock_rule : Rule
clock_rule = number_rule (codes "clock") 0 last_clock

-- `replay MANIFEST SCRIPT SCHEDULE [--clock N]`
abbrev pub replay_app : App
replay_app = with_rule (with_rule (scripted_app (codes "replay")) (required_rule (codes "SCHEDULE"))) clock_rule

-- the profiles are numbered from 1 on
abbrev pub last_profile : ℕ
last_profile = 2

-- `--profile N`, where N is the number of a profile
abbrev pub profile_rule : Rule
profile_rule = number_rule (codes "profile") 1 last_profile

-- so are the versions of the change record
abbrev pub last_version : ℕ
last_version = 2

-- `--record N`, where N is the number of a version
abbrev pub record_rule : Rule
record_rule = number_rule (codes "record") 1 last_version

-- `asm IN OUT [--profile N]`
abbrev pub asm_app : App
asm_app = with_rule (with_rule (with_rule (new_app (codes "asm")) (required_rule (codes "IN"))) (required_rule (codes "OUT"))) profile_rule

-- `dis FILE [--profile N]`
abbrev pub dis_app : App
dis_app = with_rule (with_rule (new_app (codes "dis")) (required_rule (codes "FILE"))) profile_rule

-- `check FILE [--profile N] [--record N]`
abbrev pub check_app : App
check_app = with_rule (with_rule (with_rule (new_app (codes "check")) (required_rule (codes "FILE"))) profile_rule) record_rule

abbrev pub needs_subcommand : App → App
needs_subcommand = on_top (λ s. record s { subcommand_required = true })

-- the program, which needs a subcommand
abbrev pub program_app : App
program_app = with_subcommand (with_subcommand (with_subcommand (with_subcommand (with_subcommand (needs_subcommand (new_app (codes "percobpf"))) run_app.top) replay_app.top) asm_app.top) dis_app.top) check_app.top

-- what a command line can ask for: a manifest and a script to run by so many workers beside so many swaps, the same two with
-- a schedule to replay from a clock on, a text to read and a path for its bytes, a file to list, and one to check
-- for a version of the change record, each of a profile
pub data Request : Type 0 where
  Run : Text → Text → ℕ → ℕ → Request
  Replay : Text → Text → Text → ℕ → Request
  Asm : Text → Text → Profile → Request
  Dis : Text → Profile → Request
  Check : Text → Profile → Version → Request

abbrev pub with_both : (Text → Text → Request) → Option Text → Option Text → Option Request
with_both make None second = None
with_both make (Some first) None = None
with_both make (Some first) (Some second) = Some (make first second)

abbrev pub all_three : (Text → Text → Text → Request) → Option Text → Option Text → Option Text → Option Request
all_three make None second third = None
all_three make (Some first) second third = with_both (make first) second third

abbrev pub is_within : ℕ → ℕ → ℕ → Bool
is_within low high number = nat_le low number && nat_le number high

abbrev pub count_number : Text → ℕ
count_number text = digits_value 10 text

-- the text is a number from `low` to `high`: decimal digits alone
abbrev pub is_count : ℕ → ℕ → Text → Bool
is_count low high text = is_numeral text && is_within low high (count_number text)

-- the number that a text names, `low` where there is no text, and none where it names none
abbrev pub count_named : ℕ → ℕ → Option Text → Option ℕ
count_named low high None = Some low
count_named low high (Some text) = if is_count low high text then Some (count_number text) else None

-- there is a worker at least, and a seat for each: 1 where none is named
abbrev pub is_workers : Text → Bool
is_workers text = is_count 1 most_workers text

abbrev pub workers_of : Option Text → Option ℕ
workers_of text = count_named 1 most_workers text

-- no swap where none is named
abbrev pub is_swaps : Text → Bool
is_swaps text = is_count 0 most_swaps text

abbrev pub swaps_of : Option Text → Option ℕ
swaps_of text = count_named 0 most_swaps text

-- the text is a number of `u64`: decimal digits, before which a plus may stand
abbrev pub is_clock : Text → Bool
is_clock text = is_unsigned_in 0 last_clock text

abbrev pub clock_number : Text → ℕ
clock_number text = digits_value 10 (without_leading_plus text)

-- the clock that a text names, 0 where there is no text, and none where it names none
abbrev pub clock_of : Option Text → Option ℕ
clock_of None = Some 0
clock_of (Some text) = if is_clock text then Some (clock_number text) else None

-- the profile of this number, which is 1 or 2
abbrev pub profile_numbered : ℕ → Profile
profile_numbered number = if number == 1 then Profile.One else Profile.Two

abbrev pub is_profile : Text → Bool
is_profile text = is_count 1 last_profile text

-- the profile that a text names, the first where there is no text, and none where it names none
abbrev pub profile_named : Option Text → Option Profile
profile_named text = option_map profile_numbered (count_named 1 last_profile text)

-- what is asked for with the profile that the matches name
abbrev pub with_profile : (Profile → Option Request) → List Row → Option Request
with_profile ask rows = option_and_then ask (profile_named (first_of (codes "profile") rows))

-- the version of this number, which is 1 or 2
abbrev pub version_numbered : ℕ → Version
version_numbered number = if number == 1 then Version.First else Version.Second

abbrev pub is_version : Text → Bool
is_version text = is_count 1 last_version text

-- the version that a text names, the first where there is no text, and none where it names none
abbrev pub version_of : Option Text → Option Version
version_of text = option_map version_numbered (count_named 1 last_version text)

-- what is asked for with the version that the matches name
abbrev pub with_version : (Version → Option Request) → List Row → Option Request
with_version ask rows = option_and_then ask (version_of (first_of (codes "record") rows))

-- what the matches of each subcommand ask for
abbrev pub run_in : List Row → Option Request
run_in rows =
    option_and_then (λ workers. option_and_then (λ swaps. with_both (λ manifest script. Run manifest script workers swaps)
    (first_of (codes "MANIFEST") rows) (first_of (codes "SCRIPT") rows))
    (swaps_of (first_of (codes "swaps") rows)))
    (workers_of (first_of (codes "workers") rows))

abbrev pub replay_in : List Row → Option Request
replay_in rows =
    option_and_then (λ clock. all_three (λ manifest script schedule. Replay manifest script schedule clock)
    (first_of (codes "MANIFEST") rows) (first_of (codes "SCRIPT") rows) (first_of (codes "SCHEDULE") rows))
    (clock_of (one_of (codes "clock") rows))

abbrev pub asm_in : List Row → Option Request
asm_in rows = with_profile (λ profile. with_both (λ input output. Asm input output profile) (first_of (codes "IN") rows) (first_of (codes "OUT") rows)) rows

abbrev pub dis_in : List Row → Option Request
dis_in rows = with_profile (λ profile. option_map (λ file. Dis file profile) (first_of (codes "FILE") rows)) rows

abbrev pub check_in : List Row → Option Request
check_in rows = with_profile (λ profile. with_version (λ version. option_map (λ file. Check file profile version) (first_of (codes "FILE") rows)) rows) rows

-- what a subcommand with its matches asks for
abbrev pub command_in : Option (Text × List Row) → Option Request
command_in None = None
command_in (Some p) =
    if bytes_eq p.0 (codes "run") then run_in p.1
    else if bytes_eq p.0 (codes "replay") then replay_in p.1
    else if bytes_eq p.0 (codes "asm") then asm_in p.1
    else if bytes_eq p.0 (codes "dis") then dis_in p.1
    else if bytes_eq p.0 (codes "check") then check_in p.1
    else None

abbrev pub command_of : List Text → Option Request
command_of words = command_in (subcommand_of program_app words)

abbrev pub begins_with_plus : Text → Bool
begins_with_plus [] = false
begins_with_plus (x ∷ xs) = x == 43

abbrev pub has_plus_at : Text → List Row → Bool
has_plus_at name rows = option_map_or begins_with_plus (first_of name rows) false

-- a plus, which `clap` takes, stands before the number of workers, of swaps, of a profile or of a version
abbrev pub has_plus : Option (Text × List Row) → Bool
has_plus None = false
has_plus (Some p) =
    if bytes_eq p.0 (codes "run") then has_plus_at (codes "workers") p.1 || has_plus_at (codes "swaps") p.1
    else if bytes_eq p.0 (codes "replay") then false
    else if bytes_eq p.0 (codes "asm") then has_plus_at (codes "profile") p.1
    else if bytes_eq p.0 (codes "dis") then has_plus_at (codes "profile") p.1
    else has_plus_at (codes "profile") p.1 || has_plus_at (codes "record") p.1

-- the fault that `clap` finds, or that of a plus before the number of workers, of swaps, of a profile or of a version
abbrev pub words_fault : List Text → Kinds
words_fault words = or_else (fault_of program_app words) (if has_plus (subcommand_of program_app words) then ErrorKind.ValueValidation ∷ [] else [])

abbrev pub replay_request : ReplayFiles → Request
replay_request r = Replay r.manifest.now r.script.now r.schedule.now r.clock.0

abbrev pub check_request : ProgramFile → Request
check_request f = Check f.file.now f.profile f.version

abbrev pub request_of : Options → Request
request_of (Options.Run manifest script workers swaps) = Run manifest.now script.now workers swaps
request_of (Options.Replay files) = replay_request files
request_of (Options.Asm input output profile) = Asm input.now output.now profile
request_of (Options.Dis file profile) = Dis file.now profile
request_of (Options.Check file) = check_request file

-- a run has a worker at least, and a seat for each, and no more swaps than it may be asked for
abbrev pub IsInRange : Options → Type 0
IsInRange (Options.Run manifest script workers swaps) = (1 ≤ workers) × (workers ≤ most_workers) × (swaps ≤ most_swaps)
IsInRange other = Unit {0}

-- how many tablets are to be replaced: none but by a run
abbrev pub swaps_asked : Options → ℕ
swaps_asked (Options.Run manifest script workers swaps) = swaps
swaps_asked other = 0

-- the word doesn't begin with a hyphen
abbrev pub is_plain_word : Text → Bool
is_plain_word [] = true
is_plain_word (x ∷ xs) = not (x == 45)

-- the program, a subcommand and its operands
abbrev pub run_words : Text → Text → Text → List Text
run_words program manifest script = program ∷ codes "run" ∷ manifest ∷ script ∷ []

-- `run` with `--workers`
abbrev pub workers_words : Text → Text → Text → Text → List Text
workers_words program manifest script workers = program ∷ codes "run" ∷ manifest ∷ script ∷ codes "--workers" ∷ workers ∷ []

-- `run` with `--swaps`
abbrev pub swaps_words : Text → Text → Text → Text → List Text
swaps_words program manifest script swaps = program ∷ codes "run" ∷ manifest ∷ script ∷ codes "--swaps" ∷ swaps ∷ []

abbrev pub replay_words : Text → Text → Text → Text → List Text
replay_words program manifest script schedule = program ∷ codes "replay" ∷ manifest ∷ script ∷ schedule ∷ []

-- `replay` with `--clock`
abbrev pub clock_words : Text → Text → Text → Text → Text → List Text
clock_words program manifest script schedule clock = program ∷ codes "replay" ∷ manifest ∷ script ∷ schedule ∷ codes "--clock" ∷ clock ∷ []

abbrev pub asm_words : Text → Text → Text → List Text
asm_words program input output = program ∷ codes "asm" ∷ input ∷ output ∷ []

abbrev pub dis_words : Text → Text → List Text
dis_words program file = program ∷ codes "dis" ∷ file ∷ []

abbrev pub check_words : Text → Text → List Text
check_words program file = program ∷ codes "check" ∷ file ∷ []

-- these words with `--profile` after them
abbrev pub profile_words : List Text → Text → List Text
profile_words words profile = words ++ codes "--profile" ∷ profile ∷ []

-- these words with `--record` after them
abbrev pub record_words : List Text → Text → List Text
record_words words version = words ++ codes "--record" ∷ version ∷ []

-- the words are taken without fault, and ask for this
abbrev pub AskFor : List Text → Request → Type 0
AskFor words request = (words_fault words ≡ []) × (command_of words ≡ Some request)

-- the words are refused for a value that isn't what its argument takes
abbrev pub HaveBadValue : List Text → Type 0
HaveBadValue words = words_fault words ≡ ErrorKind.ValueValidation ∷ []

-- with `--profile` and the number of a profile after them, the words ask for this of that profile
abbrev pub TakeProfiles : List Text → (Profile → Request) → Type 0
TakeProfiles words request = (profile : Text) → is_profile profile ≡ true → AskFor (profile_words words profile) (request (profile_numbered (count_number profile)))

-- with `--profile` and another plain word after them, the words are refused
abbrev pub RefuseOtherProfiles : List Text → Type 0
RefuseOtherProfiles words = (profile : Text) → is_plain_word profile ≡ true → is_profile profile ≡ false → HaveBadValue (profile_words words profile)

-- with `--record` and the number of a version after them, the words ask for this for that version
abbrev pub TakeVersions : List Text → (Version → Request) → Type 0
TakeVersions words request = (version : Text) → is_version version ≡ true → AskFor (record_words words version) (request (version_numbered (count_number version)))

-- with `--record` and another plain word after them, the words are refused
abbrev pub RefuseOtherVersions : List Text → Type 0
RefuseOtherVersions words = (version : Text) → is_plain_word version ≡ true → is_version version ≡ false → HaveBadValue (record_words words version)
