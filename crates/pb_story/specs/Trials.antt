-- A trial: one run of a program outside any table, on the record of one change, in a snapshot of a few cells, in words.
-- It is what the program means by them (`Means`), so `trial_text` can promise no other text.
use Rattle.std.specs.Prelude.{◌≡◌, ℕ, suc, Bool, if◌then◌else◌, is_some, List, [], ◌∷◌, ◌++◌, length, map, flat_map, codes, option_and_then, Some, None, decimal}
use Rattle.pb_story.specs.Words.{Cell, Content, JudgedOf, Placement, IsPlacement, Environment, State, Ask, Reply, Ends, act, Talk, Leads, Means, environment_of, AreRepliesOf, Version, is_second, size_of, record_by, asked_cell, value_of, content_in, Writes, Trial, TrialCell, Revision, Position}
use Rattle.pb_story.specs.Cells.{cell_text, content_text}

-- ---- what the run is given

-- a cell of a trial with what it holds
abbrev pub held_by : TrialCell → Cell × Content
held_by c = (Cell.Data c.row c.column, Content.Value c.value)

-- what the snapshot holds: the change, and then the cells that are given. Any other cell is absent
abbrev pub snapshot_of : Trial → Writes
snapshot_of t = held_by t.change ∷ map held_by t.cells.items

-- the reply to an ask: the value of the first cell with its row and column
abbrev pub reply_in : Trial → Ask → Reply
reply_in t a = option_and_then value_of (content_in (snapshot_of t) (asked_cell a))

-- The timestamps are those of a table in which the change is the first transaction and the run the second. With an old
-- value that is the first, its run the second, the change the third, and the run the fourth, which finds the start of the
-- second acknowledged.
abbrev pub change_start : Bool → ℕ
change_start has_old = if has_old then 5 else 1

abbrev pub run_start : Bool → ℕ
run_start has_old = if has_old then 7 else 3

abbrev pub acknowledged_before : Bool → ℕ
acknowledged_before has_old = if has_old then 3 else 0

-- the version of the changed cell that the run finds
abbrev pub revision_of : Trial → Revision
revision_of t = record { start = record { 0 = change_start (is_some t.old) }; commit = record { 0 = suc (change_start (is_some t.old)) }; content = Content.Value t.change.value }

-- its record
abbrev pub trial_record : Version → Trial → List ℕ
trial_record version t = record_by (is_second version) (Cell.Data t.change.row t.change.column) (revision_of t) (acknowledged_before (is_some t.old)) t.old

-- ---- what is printed of the run

-- a reply in words
abbrev pub reply_text : Reply → List ℕ
reply_text None = codes "absent"
reply_text (Some v) = content_text (Content.Value v)

-- the line of an ask, with its reply
abbrev pub ask_line : Ask × Reply → List ℕ
ask_line x = codes "read " ++ (decimal x.0.row ++ (codes " " ++ (decimal x.0.column ++ (codes " -> " ++ (reply_text x.1 ++ codes "\n")))))

-- the line of a write; no run writes an acknowledgment, so no observer is named
abbrev pub write_line : Cell × Content → List ℕ
write_line w = codes "write " ++ (cell_text [] w.0 ++ (codes " " ++ (content_text w.1 ++ codes "\n")))

-- the last lines: register 0, and how many instructions were done
abbrev pub end_lines : ℕ → ℕ → List ℕ
end_lines result done = codes "result " ++ (decimal result ++ (codes "\ninstructions " ++ (decimal done ++ codes "\n")))

-- the whole text: the asks in their order, the writes in that of the first write to each cell, and the end
abbrev pub lines_of_run : Talk → Writes → ℕ → ℕ → List ℕ
lines_of_run talk writes result done = flat_map ask_line talk ++ (flat_map write_line writes ++ end_lines result done)

-- ---- the run

-- so many instructions lead to the exit, at this placement
pub record LeadsToEnd (e : Environment) (talk : Talk) (steps : ℕ) : Type 0 where
  pub last : State
  pub result : ℕ
  pub made : Writes
  pub leads : Leads e talk steps last
  pub ends : act e last ≡ Ends result made

-- the exit is done after so many instructions, at every placement
abbrev pub TakesSteps : JudgedOf → List ℕ → ℕ → Talk → ℕ → Type 0
TakesSteps judged bytes start talk steps = (a : Placement) → IsPlacement (length bytes) a → LeadsToEnd (environment_of judged bytes start a) talk steps

-- the machine has done its exit, and one instruction less leads there
abbrev pub EndsNow : Position → Type 0
EndsNow v = (steps : ℕ) × (v.taken ≡ suc steps) × TakesSteps v.judged v.bytes v.start v.talk steps

-- the text of the one run of a program on the record of its version, in which the exit counts as an instruction
pub record IsTrialText (judged : JudgedOf) (t : Trial) (text : List ℕ) : Type 0 where
  pub version : Version
  pub size : judged.record_size ≡ size_of version
  pub talk : Talk
  pub result : ℕ
  pub writes : Writes
  pub steps : ℕ
  pub replies : AreRepliesOf (reply_in t) talk
  pub means : Means judged (trial_record version t) (run_start (is_some t.old)) talk result writes
  pub takes : TakesSteps judged (trial_record version t) (run_start (is_some t.old)) talk steps
  pub text_is : text ≡ lines_of_run talk writes result (suc steps)
