-- What a report shows of a history. What is newest at a cell is a parameter, since a table gets it by a snapshot at its clock,
-- and `report_of` by the writes that it is given.
use Rattle.std.specs.BTreeMap as tree
use Rattle.std.specs.BTreeMap.{BTreeMap}
use Rattle.std.specs.Prelude.{◌≡◌, ◌≢◌, ℕ, ◌≤◌, Bool, true, nat_lt, List, ◌++◌, map, Contains, Option, Some, None}
use Rattle.std.specs.List.Sorted.{IsStrictlySortedBy}
use Rattle.std.specs.Map.{lookup}
use Rattle.pb_script.specs.Words.{Ts, Cell, cell_cmp}
use Rattle.pb_script.specs.declared.reports.lines.Newest.{Newest}
use Rattle.pb_script.specs.declared.reports.newest.Put.{Put}
use Rattle.pb_script.specs.ReportLines.{Tallies, cell_lines, run_lines, last_line}

-- what is newest at a cell: of its committed writes the one with the greatest commit, and nothing where it has none
abbrev pub IsNewestPut : List Put → Cell → Option Newest → Type 0
IsNewestPut puts x None = (p : Put) → Contains puts p → p.cell ≢ x
IsNewestPut puts x (Some n) = Contains puts (record { cell = x; commit = n.commit; content = n.content }) × ((p : Put) → Contains puts p → p.cell ≡ x → p.commit.0 ≤ n.commit.0)

-- what is reported of a cell: what is newest at a data cell, and of an acknowledgment nothing
abbrev pub IsTold : (Cell → Option Newest → Type 0) → Cell → Option Newest → Type 0
IsTold newest (Cell.Data row column) r = newest (Cell.Data row column) r
IsTold newest (Cell.Ack observer row column) r = r ≡ None

-- The text for what is newest at each cell: a line for each data cell that has a write, by row and column, a line for
-- each observer, and the last line.
pub record IsReportOf (newest : Cell → Option Newest → Type 0) (runs : Tallies) (marks locks : ℕ) (text : List ℕ) : Type 0 where
  pub entries : List (Cell × Newest)
  pub rising : IsStrictlySortedBy cell_cmp (map (λ e. e.0) entries)
  pub told : (x : Cell) → IsTold newest x (lookup (tree.is_at (cell_cmp x)) entries)
  pub lines : text ≡ cell_lines entries ++ (run_lines runs ++ last_line marks locks)

-- the report of committed writes
abbrev pub IsReport : List Put → Tallies → ℕ → ℕ → List ℕ → Type 0
IsReport puts runs marks locks text = IsReportOf (IsNewestPut puts) runs marks locks text

-- no cell has two writes of one commit
abbrev pub AreApart : List Put → Type 0
AreApart puts = (p q : Put) → Contains puts p → Contains puts q → p.cell ≡ q.cell → p.commit ≡ q.commit → p ≡ q

-- the table has, of these writes, the newest at each data cell
pub record AreNewest (puts : List Put) (table : BTreeMap Cell Newest) : Type 0 where
  pub told : (x : Cell) → IsTold (IsNewestPut puts) x (tree.get cell_cmp table x)
  pub rising : tree.IsOrdered cell_cmp table

-- what a write leaves at its cell
abbrev pub newest_in : Put → Newest
newest_in p = record { commit = p.commit; content = p.content }

-- whether a write with this commit is newer than what is there, where anything is
abbrev pub is_later : Option Newest → Ts → Bool
is_later None commit = true
is_later (Some n) commit = nat_lt n.commit.0 commit.0
