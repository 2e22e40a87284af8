-- What follows from taking a snapshot of a kept table, quiet or not: a state may begin with it.
use Rattle.std.specs.Prelude.{ℕ, List, map}
use Rattle.std.specs.List.Sorted.{IsStrictlySortedBy}
use Rattle.pb_snapshots.specs.Words.{Writes, AreInOrder, WhyNotCarried, CarryFault, Keeps, KeptTable}
use Rattle.pb_snapshots.specs.Snapshot.{SnapshotOf}
use Rattle.pb_snapshots.specs.Taken.{IsSnapshotTaken}
use Rattle.pb_snapshots.specs.VersionWalks.{commit_cmp, commit_of_version}

-- The versions of a snapshot, by rising commits and by rising cells within one commit, are in the order in which a state takes them
-- over: the table has one seat, so that its committed transactions follow one another.
abbrev pub TakenAreInOrder : Type 0
TakenAreInOrder =
    (limit : ℕ) (first : KeptTable) (changes : List Writes) (table : KeptTable) (s : SnapshotOf) → Keeps limit first changes table → IsSnapshotTaken table s → IsStrictlySortedBy commit_cmp (map commit_of_version s.cells)
    → AreInOrder first.state.observers s.clock s.cells

-- memory was refused, and nothing is amiss with the versions
abbrev pub IsForMemory : CarryFault → Type 0
IsForMemory (CarryFault.NoMemory e) = Unit {0}
IsForMemory _ = ⊥

-- so no version of it is refused but for want of memory
abbrev pub TakenAreAccepted : Type 0
TakenAreAccepted =
    (limit : ℕ) (first : KeptTable) (changes : List Writes) (table : KeptTable) (s : SnapshotOf) → Keeps limit first changes table → IsSnapshotTaken table s → IsStrictlySortedBy commit_cmp (map commit_of_version s.cells)
    → (n : ℕ) (e : CarryFault) → WhyNotCarried first.state.observers s.clock s.cells n e → IsForMemory e
