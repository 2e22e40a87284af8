-- Observers of a column against the newest commit of a cell, one by one: what the loop of a sweep decides. None is late on the
-- newest commit exactly if all are up to date with each.
use Rattle.std.specs.Prelude.{◌≡◌, ℕ, ◌<◌, ◌≤◌, List, Option, Some, slice_get}
use Rattle.pb_state.specs.Words.{Cell, Row, Revision, Entries, ObserverOf, IsNewestVersion, stamp_in}

-- the stamp of the newest version, 0 where there is none
abbrev pub IsNewestStamp : Entries → Cell → ℕ → Type 0
IsNewestStamp e ack a = (v : Option Revision) × IsNewestVersion e ack v × (a ≡ stamp_in v)

-- it is one of the column, and has acknowledged less than this commit
abbrev pub IsLate : Entries → Row → ℕ → ℕ → ObserverOf → ℕ → Type 0
IsLate e row column commit observer p = (observer.column ≡ column) × (a : ℕ) × IsNewestStamp e (Cell.Ack p row column) a × (a < commit)

-- if it is one of the column, it has acknowledged this commit
abbrev pub IsOnTime : Entries → Row → ℕ → ℕ → ObserverOf → ℕ → Type 0
IsOnTime e row column commit observer p = observer.column ≡ column → (a : ℕ) × IsNewestStamp e (Cell.Ack p row column) a × (commit ≤ a)

-- one of these observers is late
abbrev pub SomeLate : Entries → Row → ℕ → ℕ → List ObserverOf → Type 0
SomeLate e row column commit observers = (p : ℕ) × (observer : ObserverOf) × (slice_get observers p ≡ Some observer) × IsLate e row column commit observer p

-- the first n are on time
abbrev pub AreOnTime : Entries → Row → ℕ → ℕ → List ObserverOf → ℕ → Type 0
AreOnTime e row column commit observers n = (p : ℕ) (observer : ObserverOf) → p < n → slice_get observers p ≡ Some observer → IsOnTime e row column commit observer p
