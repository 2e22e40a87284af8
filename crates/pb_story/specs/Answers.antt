-- Answers of the shared table in words. `add_answer` cites it; docs/FORMATS.md lists them by their steps.
use Rattle.std.specs.Prelude.{ℕ, List, ◌++◌, codes, decimal}
use Rattle.pb_story.specs.Words.{Ts, Content, ObserverOf, Answer}
use Rattle.pb_story.specs.Cells.{content_text}
use Rattle.pb_story.specs.Steps.{start_text, on_cell_text, at_cell_text}

-- a version: its start, its commit and its content
abbrev pub found_text : Ts → Ts → Content → List ℕ
found_text s c content = codes "found " ++ (decimal s.0 ++ (codes " " ++ (decimal c.0 ++ (codes " " ++ content_text content))))

-- an answer by its word, and after it what it holds: timestamps, a cell, a content
abbrev pub answer_text : List ObserverOf → Answer → List ℕ
answer_text observers (Answer.At t) = start_text (codes "at") t
answer_text observers (Answer.Locked s x) = at_cell_text observers (codes "locked") s x
answer_text observers (Answer.Found s c content) = found_text s c content
answer_text observers Answer.Absent = codes "absent"
answer_text observers Answer.Done = codes "done"
answer_text observers Answer.Conflict = codes "conflict"
answer_text observers Answer.Committed = codes "committed"
answer_text observers Answer.Lost = codes "lost"
answer_text observers Answer.RolledBack = codes "rolled back"
answer_text observers Answer.Waits = codes "waits"
answer_text observers (Answer.CommittedAt c) = start_text (codes "committed at") c
answer_text observers (Answer.Marked x) = on_cell_text observers (codes "marked") x
answer_text observers Answer.NoMark = codes "no mark"
answer_text observers Answer.StillBehind = codes "still behind"
