-- What the words of `percobpf_story trial` ask for, as `clap` reads them: a program, and the cells of its one run. Rows,
-- columns and values have the words of a script.
use Rattle.std.specs.Prelude.{ℕ, ◌-◌, ◌^◌, true, List, [], ◌∷◌, codes, Option, Some, None, Result, Ok, Err, option_map, option_and_then}
use Rattle.clap.specs.Words.{App, Row, Rule, Text, all_of, first_of, new_app, new_rule, with_rule}
use Rattle.clap.specs.declared.builder.action.ArgAction.TheVariants.{Append}
use Rattle.pb_base.specs.declared.limits.TheConstants.{COLUMNS}
use Rattle.pb_reading.specs.Reading.{numeral_upto}
use Rattle.pb_parse.specs.ScriptWords.{value_of_word}
use Rattle.pb_texts.specs.CommandLines.{Request, required_rule, profile_rule, record_rule, check_in, check_request}
use Rattle.pb_texts.specs.declared.words.choice.Trial.{Trial}
use Rattle.pb_texts.specs.declared.words.choice.TrialCell.{TrialCell}

-- ---- the subcommand

-- an option whose value is any text
abbrev pub text_rule : Text → Rule
text_rule name = record (new_rule name) { long = Some name; value_names = 1 }

-- the same, which has to be there
abbrev pub required_option : Text → Rule
required_option name = record (text_rule name) { required = true }

-- `--cell R C HEX`, as often as it is written
abbrev pub cell_rule : Rule
cell_rule = record (new_rule (codes "cell")) { long = Some (codes "cell"); value_names = 3; range = Some (record { start_inclusive = 3; end_inclusive = 3 }); action = Some Append }

-- `trial FILE --row R --column C --value HEX`
abbrev pub change_app : App
change_app = with_rule (with_rule (with_rule (with_rule (new_app (codes "trial")) (required_rule (codes "FILE"))) (required_option (codes "row"))) (required_option (codes "column"))) (required_option (codes "value"))

-- the same with `[--old HEX] [--cell R C HEX ..] [--profile N] [--record N]`
abbrev pub trial_app : App
trial_app = with_rule (with_rule (with_rule (with_rule change_app (text_rule (codes "old"))) cell_rule) profile_rule) record_rule

-- ---- what is read of its words

-- what is read, or nothing of a word at fault
abbrev pub read_of : {A E : Type 0} → Result A E → Option A
read_of (Ok x) = Some x
read_of (Err e) = None

-- a number of at most so much
abbrev pub numeral_named : ℕ → Text → Option ℕ
numeral_named greatest text = read_of {E = Unit {0}} (numeral_upto tt tt greatest text)

abbrev pub row_named : Text → Option ℕ
row_named text = numeral_named (2 ^ 64 - 1) text

abbrev pub column_named : Text → Option ℕ
column_named text = numeral_named (COLUMNS - 1) text

abbrev pub value_named : Text → Option (List ℕ)
value_named text = read_of (value_of_word text)

-- a cell with its value
abbrev pub trial_cell : Text → Text → Text → Option TrialCell
trial_cell row column value =
    option_and_then (λ r. option_and_then (λ c. option_map (λ v. record { row = record { 0 = r }; column = c; value = v })
    (value_named value)) (column_named column)) (row_named row)

-- three words a cell, each read
abbrev pub cells_named : List Text → Option (List TrialCell)
cells_named [] = Some []
cells_named (row ∷ []) = None
cells_named (row ∷ column ∷ []) = None
cells_named (row ∷ column ∷ value ∷ words) = option_and_then (λ cell. option_map (λ cells. cell ∷ cells) (cells_named words)) (trial_cell row column value)

-- the cells of the words of all `--cell`, none where there are no such words
abbrev pub trial_cells_of : Option (List Text) → Option (List TrialCell)
trial_cells_of None = Some []
trial_cells_of (Some words) = cells_named words

abbrev pub trial_cells_in : List Row → Option (List TrialCell)
trial_cells_in rows = trial_cells_of (all_of (codes "cell") rows)

-- the change: `--row`, `--column` and `--value`
abbrev pub change_in : List Row → Option TrialCell
change_in rows =
    option_and_then (λ row. option_and_then (λ column. option_and_then (λ value. trial_cell row column value)
    (first_of (codes "value") rows)) (first_of (codes "column") rows)) (first_of (codes "row") rows)

-- the acknowledged value that a text names, none where there is no text
abbrev pub old_of : Option Text → Option (Option (List ℕ))
old_of None = Some None
old_of (Some text) = option_map (λ value. Some value) (value_named text)

abbrev pub old_in : List Row → Option (Option (List ℕ))
old_in rows = old_of (first_of (codes "old") rows)

-- what `check` is asked for with the same words of FILE, `--profile` and `--record`, and the cells
pub record TrialRequest : Type 0 where
  pub program : Request
  pub change : TrialCell
  pub old : Option (List ℕ)
  pub cells : List TrialCell

-- with these cells
abbrev pub trial_with : List Row → List TrialCell → Option TrialRequest
trial_with rows cells =
    option_and_then (λ program. option_and_then (λ change. option_map (λ old. record { program = program; change = change; old = old; cells = cells })
    (old_in rows)) (change_in rows)) (check_in rows)

abbrev pub trial_in : List Row → Option TrialRequest
trial_in rows = option_and_then (trial_with rows) (trial_cells_in rows)

abbrev pub trial_request : Trial → TrialRequest
trial_request t = record { program = check_request t.program; change = t.change; old = t.old; cells = t.cells.items }
