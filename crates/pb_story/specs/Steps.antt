-- Steps of the shared table in words: one word each, with a transaction's start or a cell. `add_step` cites it.
use Rattle.std.specs.Prelude.{ℕ, List, ◌++◌, codes, Option, Some, None, decimal}
use Rattle.pb_story.specs.Words.{Ts, Cell, ObserverOf, Work, Declared, Step}
use Rattle.pb_story.specs.Cells.{observer_name, cell_text, writes_text}

-- what a transaction is for, in a schedule's words
abbrev pub work_text : List ObserverOf → Work → List ℕ
work_text observers Work.Script = codes "script"
work_text observers (Work.Run o row) = codes "run " ++ (observer_name observers o ++ (codes " " ++ decimal row.0))

-- what is declared: a batch's writes, or the result of a run and then its writes
abbrev pub declared_text : List ObserverOf → Declared → List ℕ
declared_text observers (Declared.Script batch) = codes "script" ++ writes_text observers batch
declared_text observers (Declared.Run o f) = codes "run " ++ (observer_name observers o ++ (codes " result " ++ (decimal f.result ++ writes_text observers f.writes)))

-- a word and the transaction's start
abbrev pub start_text : List ℕ → Ts → List ℕ
start_text word s = word ++ (codes " " ++ decimal s.0)

-- a word and a cell
abbrev pub on_cell_text : List ObserverOf → List ℕ → Cell → List ℕ
on_cell_text observers word x = word ++ (codes " " ++ cell_text observers x)

-- a word, the transaction's start and a cell
abbrev pub at_cell_text : List ObserverOf → List ℕ → Ts → Cell → List ℕ
at_cell_text observers word s x = word ++ (codes " " ++ (decimal s.0 ++ (codes " " ++ cell_text observers x)))

-- a search for a marked cell, from the beginning or after a cell; no actor's job asks it, but journals have it
abbrev pub next_mark_text : List ObserverOf → Option Cell → List ℕ
next_mark_text observers None = codes "next mark"
next_mark_text observers (Some x) = on_cell_text observers (codes "next mark after") x

-- a step by its word; commits of a primary and of another cell have one word, and differ by the cell
abbrev pub step_text : List ObserverOf → Step → List ℕ
step_text observers (Step.Begin work) = codes "begin " ++ work_text observers work
step_text observers (Step.Read s x) = at_cell_text observers (codes "read") s x
step_text observers (Step.ReadAt s x t) = at_cell_text observers (codes "read") s x ++ (codes " at " ++ decimal t.0)
step_text observers (Step.Declare s what) = start_text (codes "declare") s ++ (codes " " ++ declared_text observers what)
step_text observers (Step.Prewrite s x) = at_cell_text observers (codes "prewrite") s x
step_text observers (Step.Stamp s) = start_text (codes "stamp") s
step_text observers (Step.CommitPrimary s) = start_text (codes "commit") s
step_text observers (Step.CommitSecondary s x) = at_cell_text observers (codes "commit") s x
step_text observers (Step.Settle x) = on_cell_text observers (codes "settle") x
step_text observers (Step.Clear x) = on_cell_text observers (codes "clear") x
step_text observers (Step.NextMark after) = next_mark_text observers after
step_text observers (Step.Sweep x) = on_cell_text observers (codes "sweep") x
