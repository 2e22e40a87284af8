-- The versions of a snapshot that are chosen for other observers, and what a walk over it has gathered of them. The functions of
-- src/choosing.rt cite these.
use Rattle.std.specs.Prelude.{◌≡◌, ℕ, List, Some}
use Rattle.std.specs.BTreeMap.{BTreeMap}
use Rattle.pb_snapshots.specs.Words.{Cell, Revision, Ts, Has, chosen_cell}
use Rattle.pb_snapshots.specs.VersionWalks.{AreListed, HasNoted}

-- a cell has one of these versions at most of one commit
abbrev pub HaveOneOfEachCommit : List (Cell × Revision) → Type 0
HaveOneOfEachCommit cells = (x : Cell) (v w : Revision) → Has cells (x, v) → Has cells (x, w) → v.commit ≡ w.commit → v ≡ w

-- one of these versions, under the number that its observer will have
abbrev pub IsOfChosen : List ℕ → List (Cell × Revision) → Cell → Revision → Type 0
IsOfChosen places cells y v = (x : Cell) × (chosen_cell places x ≡ Some y) × Has cells (x, v)

-- all that are chosen of these versions
abbrev pub AreChosenVersions : List ℕ → List (Cell × Revision) → List (Cell × Revision) → Type 0
AreChosenVersions places cells chosen = AreListed (IsOfChosen places cells) chosen

-- a map has them, unless they are among the rest
abbrev pub HasChosen : List ℕ → List (Cell × Revision) → List (Cell × Revision) → BTreeMap (Ts × Cell) Revision → Type 0
HasChosen places cells rest versions = HasNoted (IsOfChosen places cells) (IsOfChosen places rest) versions
