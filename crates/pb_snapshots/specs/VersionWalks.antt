-- The versions that a snapshot takes of a table, as it lists them, and what a walk over entries has gathered of them. The
-- functions of src/taking.rt cite these.
use Rattle.std.specs.Prelude.{◌≡◌, ℕ, ◌≤◌, ◌⊎◌, true, List, map, Some, is_some}
use Rattle.std.specs.BTreeMap as tree
use Rattle.std.specs.BTreeMap.{BTreeMap}
use Rattle.std.specs.FinMap.Entries.{find}
use Rattle.std.specs.List.Sorted.{IsStrictlySortedBy}
use Rattle.std.specs.Ordering.{nat_cmp, on, then_cmp}
use Rattle.std.specs.declared.cmp.Ordering.{Ordering}
use Rattle.pb_snapshots.specs.Words.{cell_cmp, Cell, Revision, Ts, Entries, slot_at, slot_cmp, Item, Slot, Sort, data_at, write_at, StateOf, Has}
use Rattle.pb_snapshots.specs.Taken.{IsTakenOf}

-- by the commits of their transactions, and by cells within one commit
abbrev pub commit_cmp : Ts × Cell → Ts × Cell → Ordering
commit_cmp = then_cmp (on (λ k. k.0.0) nat_cmp) (on (λ k. k.1) cell_cmp)

-- the commit and the cell of a version
abbrev pub commit_of_version : Cell × Revision → Ts × Cell
commit_of_version p = (p.1.commit, p.0)

-- these versions and nothing else, in that order, each once
pub record AreListed (is : Cell → Revision → Type 0) (cells : List (Cell × Revision)) : Type 0 where
  pub each : (x : Cell) (v : Revision) → Has cells (x, v) → is x v
  pub all : (x : Cell) (v : Revision) → is x v → Has cells (x, v)
  pub rising : IsStrictlySortedBy commit_cmp (map commit_of_version cells)

-- all that a snapshot takes of a table
abbrev pub AreTakenVersions : StateOf → List (Cell × Revision) → Type 0
AreTakenVersions state cells = AreListed (IsTakenOf state) cells

-- ---- a walk

-- where the record of a version stands
abbrev pub version_slot : Cell → Revision → Slot
version_slot x v = slot_at x Sort.Write v.commit.0

-- a version that stands up to s, with its record in this slot and its data
pub record StandsIn (e : Entries) (s : ℕ) (slot : Slot) (v : Revision) : Type 0 where
  pub here : slot ≡ version_slot slot.cell v
  pub low : v.commit.0 ≤ s
  pub written : write_at e slot.cell v.commit.0 ≡ Some v.start.0
  pub content : data_at e slot.cell v.start.0 ≡ Some v.content

-- and that a snapshot takes
abbrev pub IsTakenIn : StateOf → Slot → Revision → Type 0
IsTakenIn state slot v = IsTakenOf state slot.cell v × (slot ≡ version_slot slot.cell v)

-- a map has these versions and nothing else, each under its commit and its cell; some may be left out
pub record HasNoted (is left : Cell → Revision → Type 0) (versions : BTreeMap (Ts × Cell) Revision) : Type 0 where
  pub sound : (k : Ts × Cell) (v : Revision) → tree.get commit_cmp versions k ≡ Some v → is k.1 v × (v.commit ≡ k.0)
  pub whole : (x : Cell) (v : Revision) → is x v → (tree.get commit_cmp versions (v.commit, x) ≡ Some v) ⊎ left x v
  pub rising : tree.IsOrdered commit_cmp versions

-- what a snapshot takes, unless its record is among the rest of the entries
abbrev pub HasTaken : StateOf → List (Slot × Item) → BTreeMap (Ts × Cell) Revision → Type 0
HasTaken state rest versions = HasNoted (IsTakenOf state) (λ x v. is_some (find slot_cmp (version_slot x v) rest) ≡ true) versions

-- an entry of such a map as a snapshot lists it
abbrev pub version_listed : (Ts × Cell) × Revision → Cell × Revision
version_listed w = (w.0.1, w.1)
