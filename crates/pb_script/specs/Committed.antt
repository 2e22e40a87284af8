-- What is reported of a table, said by its history and by snapshots, as reads are: a walk over the journal that gathers
-- wrongly would make a definition by such a walk wrong alike. `report` rests on it.
use Rattle.std.specs.Prelude.{◌≡◌, ℕ, ◌≤◌, List, Contains, Option, Some, None}
use Rattle.std.specs.BTreeMap.{BTreeMap}
use Rattle.pb_script.specs.Words.{Row, Cell, Content, ObserverOf, Entry, Member, InHistory, WritesTo, IsSnapshot, NoSnapshot}
use Rattle.pb_script.specs.declared.reports.lines.Newest.{Newest}
use Rattle.pb_script.specs.declared.reports.newest.Put.{Put}
use Rattle.pb_script.specs.Reports.{AreNewest}

-- a committed transaction of the journal wrote this content to x, with this commit
pub record IsWrite (observers : List ObserverOf) (journal : List Entry) (x : Cell) (commit : ℕ) (content : Content) : Type 0 where
  pub m : Member
  pub in_history : InHistory observers journal m
  pub commit_is : m.commit ≡ commit
  pub writes : WritesTo m x content

-- what the snapshot at a timestamp has of x
abbrev pub IsSeenAt : List ObserverOf → List Entry → ℕ → Cell → Option Newest → Type 0
IsSeenAt observers journal s x None = NoSnapshot observers journal s x
IsSeenAt observers journal s x (Some n) = (start : ℕ) × IsSnapshot observers journal s x start n.commit.0 n.content

-- these are the committed writes of the journal to data cells
pub record Gathers (observers : List ObserverOf) (journal : List Entry) (puts : List Put) : Type 0 where
  pub sound : (p : Put) → Contains puts p → IsWrite observers journal p.cell p.commit.0 p.content
  pub whole : (row : Row) (column commit : ℕ) (content : Content) → IsWrite observers journal (Cell.Data row column) commit content → Contains puts (record { cell = Cell.Data row column; commit = record { 0 = commit }; content = content })

-- the table has, of the committed writes of the journal, the newest at each data cell
pub record HasNewest (observers : List ObserverOf) (journal : List Entry) (table : BTreeMap Cell Newest) : Type 0 where
  pub puts : List Put
  pub gathered : Gathers observers journal puts
  pub newest : AreNewest puts table

-- no transaction is committed above this timestamp
abbrev pub AreSeen : List ObserverOf → List Entry → ℕ → Type 0
AreSeen observers journal s = (m : Member) → InHistory observers journal m → m.commit ≤ s
