-- The lines of a report, byte by byte. The functions of src/reports cite these, each the one of its name.
use Rattle.std.specs.Prelude.{ℕ, ◌&&◌, ◌==◌, if◌then◌else◌, List, [], ◌∷◌, ◌++◌, codes, decimal}
use Rattle.std.specs.List.{list_all, flat_map}
use Rattle.hex.specs.Hex.{encode_lower}
use Rattle.pb_script.specs.Words.{Cell, Content, row_of, column_of}
use Rattle.pb_script.specs.declared.reports.lines.Newest.{Newest}

-- without the zeros at the end, but at least one byte
abbrev pub trimmed : List ℕ → List ℕ
trimmed [] = []
trimmed (b ∷ bs) = if list_all (λ c. c == 0) bs then b ∷ [] else b ∷ trimmed bs

-- how the line of a cell ends; no data cell has a stamp, which says no more than a deletion
abbrev pub ending : Content → List ℕ
ending (Content.Value bytes) = codes " value " ++ (encode_lower (trimmed bytes) ++ codes "\n")
ending Content.Deleted = codes " deleted\n"
ending (Content.Stamp t) = codes " deleted\n"

-- the line of a data cell: where it is, the commit of its newest write, and what that left there
abbrev pub cell_line : Cell → Newest → List ℕ
cell_line x newest = codes "cell " ++ (decimal (row_of x).0 ++ (codes " " ++ (decimal (column_of x) ++ (codes " commit " ++ (decimal newest.commit.0 ++ ending newest.content)))))

-- the lines of these cells, in this order
abbrev pub cell_lines : List (Cell × Newest) → List ℕ
cell_lines es = flat_map (λ e. cell_line e.0 e.1) es

-- names of observers, each with the number of its committed runs
abbrev pub Tallies : Type 0
Tallies = List (List ℕ × ℕ)

-- the line of an observer: its name, and how many of its runs are committed
abbrev pub run_line : List ℕ × ℕ → List ℕ
run_line r = codes "runs " ++ (r.0 ++ (codes " " ++ (decimal r.1 ++ codes "\n")))

-- a line for each observer, also for one that never ran
abbrev pub run_lines : Tallies → List ℕ
run_lines runs = flat_map run_line runs

-- `quiet` where no mark and no lock is left, which says that each change was handled; else how many of each
abbrev pub last_line : ℕ → ℕ → List ℕ
last_line marks locks = if (marks == 0) && (locks == 0) then codes "quiet\n" else codes "marks " ++ (decimal marks ++ (codes " locks " ++ (decimal locks ++ codes "\n")))
