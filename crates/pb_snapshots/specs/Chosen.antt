-- A snapshot for other observers: of each cell of theirs its version, under their new numbers, and their stats.
use Rattle.std.specs.Prelude.{◌≡◌, ◌<◌, List, ℕ, Some, map}
use Rattle.std.specs.List.Sorted.{IsStrictlySortedBy}
use Rattle.pb_snapshots.specs.Words.{Writes, Cell, Revision, ObserverOf, last_timestamp, StateOf, Has, IsCarriedOver, IsMarkedBehind, WhyNotCarried, CarryFault, AreChosen, chosen_cell, IsChosenOf, IsFirstTable, Keeps, KeepsFrom, KeptTable, chosen_stats}
use Rattle.pb_snapshots.specs.Snapshot.{SnapshotOf}
use Rattle.pb_snapshots.specs.Taken.{IsSnapshotTaken}
use Rattle.pb_snapshots.specs.TakenOrder.{IsForMemory}
use Rattle.pb_snapshots.specs.VersionWalks.{commit_cmp, commit_of_version}

-- the second snapshot is what the first has of the observers at these places
pub record IsChosenFrom (places : List ℕ) (s u : SnapshotOf) : Type 0 where
  pub clock : u.clock ≡ s.clock
  pub stats : u.stats ≡ chosen_stats places s.stats
  pub each : (y : Cell) (v : Revision) → Has u.cells (y, v) → (x : Cell) × (chosen_cell places x ≡ Some y) × Has s.cells (x, v)
  pub all : (x y : Cell) (v : Revision) → chosen_cell places x ≡ Some y → Has s.cells (x, v) → Has u.cells (y, v)

-- A state that took over what was chosen of a snapshot, and has a mark on each cell that one of these observers isn't up to date on, goes on with
-- them.
abbrev pub ChosenBegin : Type 0
ChosenBegin =
    (limit : ℕ) (past changes : List Writes) (first old new : KeptTable) (s u : SnapshotOf) (over : StateOf) (places : List ℕ) (front : List ObserverOf) → IsFirstTable past first → KeepsFrom limit first changes old → old.state.clock < last_timestamp
    → AreChosen places old.state.observers front → IsSnapshotTaken old s → IsChosenFrom places s u → IsCarriedOver front 1 u.clock u.cells over → IsMarkedBehind over new.state → new.stats ≡ u.stats
    → IsChosenOf places front old new

-- and none of its versions is refused but for want of memory
abbrev pub ChosenAreAccepted : Type 0
ChosenAreAccepted =
    (limit : ℕ) (first : KeptTable) (changes : List Writes) (table : KeptTable) (s u : SnapshotOf) (places : List ℕ) (front : List ObserverOf) → Keeps limit first changes table → AreChosen places table.state.observers front
    → IsSnapshotTaken table s → IsChosenFrom places s u → IsStrictlySortedBy commit_cmp (map commit_of_version u.cells) → (n : ℕ) (e : CarryFault) → WhyNotCarried front u.clock u.cells n e → IsForMemory e
