-- Notifications (OSDI 2010, section 2.4): which cells are marked for their observers, and where an observer isn't up to date. To
-- have acknowledged is defined for each commit of a cell, so that a cell without any is no case of its own.
use Rattle.std.specs.Prelude.{◌≡◌, ℕ, ◌<◌, ◌≤◌, Bool, true, false, ◌==◌, if◌then◌else◌, List, Option, Some, None, is_some, slice_get}
use Rattle.std.specs.List.{list_any}
use Rattle.std.specs.FinMap as map
use Rattle.pb_steps.specs.Words.{Cell, Row, Revision, Entries, Marks, ObserverOf}
use Rattle.pb_steps.specs.Reads.{stamp_of}
use Rattle.pb_steps.specs.Readings.{write_at, last_timestamp, IsVersion, IsNewestVersion}

-- ---- marks

-- a data cell whose column has an observer
abbrev pub is_observed : List ObserverOf → Cell → Bool
is_observed observers (Cell.Data row column) = list_any (λ o. o.column == column) observers
is_observed observers (Cell.Ack o row column) = false

-- a write record to an observed cell marks it
abbrev pub with_mark : List ObserverOf → Marks → Cell → Marks
with_mark observers marks x = if is_observed observers x then map.insert marks x tt else marks

-- the cell is marked
abbrev pub is_marked : Marks → Cell → Bool
is_marked marks x = map.contains_key marks x

-- ---- observers that aren't up to date

-- the stamp of an acknowledgment's newest version, and 0 where there is none
abbrev pub stamp_in : Option Revision → ℕ
stamp_in None = 0
stamp_in (Some v) = (stamp_of v.content).0

-- the observer of this number is one of the column, and its acknowledgment in the row has this as its newest version
pub record Acknowledges (observers : List ObserverOf) (e : Entries) (row : Row) (column p : ℕ) (acknowledged : Option Revision) : Type 0 where
  pub observer : ObserverOf
  pub there : slice_get observers p ≡ Some observer
  pub observes : observer.column ≡ column
  pub newest : IsNewestVersion e (Cell.Ack p row column) acknowledged

-- the newest commit of the cell is above what the observer has acknowledged
pub record IsBehind (observers : List ObserverOf) (e : Entries) (row : Row) (column p : ℕ) : Type 0 where
  pub version : Revision
  pub newest : IsVersion e (Cell.Data row column) last_timestamp version
  pub acknowledged : Option Revision
  pub acknowledges : Acknowledges observers e row column p acknowledged
  pub newer : stamp_in acknowledged < version.commit.0

-- an observer isn't up to date on the cell; on an acknowledgment all are, since no observer's column has any
abbrev pub SomeBehind : List ObserverOf → Entries → Cell → Type 0
SomeBehind observers e (Cell.Data row column) = (p : ℕ) × IsBehind observers e row column p
SomeBehind observers e (Cell.Ack o row column) = ⊥

-- the observer of this number, if it is one of the column, has acknowledged every commit of the cell
abbrev pub IsUpToDate : List ObserverOf → Entries → Row → ℕ → ℕ → Type 0
IsUpToDate observers e row column p =
    (observer : ObserverOf) → slice_get observers p ≡ Some observer → observer.column ≡ column
    → (c : ℕ) → c ≤ last_timestamp → is_some (write_at e (Cell.Data row column) c) ≡ true
    → (acknowledged : Option Revision) × IsNewestVersion e (Cell.Ack p row column) acknowledged × (c ≤ stamp_in acknowledged)

-- every observer of the cell's column is up to date, so that its mark may go
abbrev pub AllUpToDate : List ObserverOf → Entries → Cell → Type 0
AllUpToDate observers e (Cell.Data row column) = (p : ℕ) → IsUpToDate observers e row column p
AllUpToDate observers e (Cell.Ack o row column) = Unit {0}
