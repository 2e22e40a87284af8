-- What a table has to keep of its past so that no later step of a job shows a difference from the whole table: of each cell the
-- version at a timestamp c, all that is later, and the locks. What is older may be dropped.
use Rattle.std.specs.Prelude.{◌≡◌, ◌≢◌, ℕ, ◌<◌, ◌≤◌, ◌⊎◌, ◌↔◌, Some, None}
use Rattle.std.specs.FinMap as map
use Rattle.pb_generations.specs.Words.{Cell, Content, Revision, Entries, slot_at, Sort, IsVersion, NoVersion, data_at, last_timestamp, lock_at, write_at, StateOf, TransactionOf, Transactions, Phase, IsQuiet, IsSoundTable}

-- the version of x in the first with the greatest commit at most t is that of y in the second, or neither has any
pub record SameVersionOn (t : ℕ) (first : Entries) (x : Cell) (second : Entries) (y : Cell) : Type 0 where
  pub there : (v : Revision) → IsVersion first x t v ↔ IsVersion second y t v
  pub none : NoVersion first x t ↔ NoVersion second y t

-- and so of one cell in both
abbrev pub SameVersion : ℕ → Entries → Entries → Cell → Type 0
SameVersion t whole kept x = SameVersionOn t whole x kept x

-- what was kept is of the whole: it has no write record and no data of its own
pub record IsPartOf (whole kept : Entries) : Type 0 where
  pub records : (x : Cell) (d s : ℕ) → write_at kept x d ≡ Some s → write_at whole x d ≡ Some s
  pub stored : (x : Cell) (s : ℕ) (k : Content) → data_at kept x s ≡ Some k → data_at whole x s ≡ Some k

-- Of later commits and later starts the kept entries are the whole ones, locks are of later starts alone, and up to c they have
-- the same versions. What they lack are earlier versions.
pub record SameEntries (c : ℕ) (whole kept : Entries) : Type 0 where
  pub versions : (x : Cell) → SameVersion c whole kept x
  -- each cell has a version at c, with its data, or none
  pub either : (x : Cell) → ((v : Revision) × IsVersion whole x c v) ⊎ NoVersion whole x c
  -- a write record up to c names a start up to c, and a later one a later start
  pub early : (x : Cell) (d s : ℕ) → d ≤ c → write_at whole x d ≡ Some s → s ≤ c
  pub kept_early : (x : Cell) (d s : ℕ) → d ≤ c → write_at kept x d ≡ Some s → s ≤ c
  pub starts : (x : Cell) (d s : ℕ) → c < d → write_at whole x d ≡ Some s → c < s
  pub records : (x : Cell) (d : ℕ) → c < d → write_at kept x d ≡ write_at whole x d
  pub stored : (x : Cell) (s : ℕ) → c < s → data_at kept x s ≡ data_at whole x s
  pub locks : (x : Cell) (s : ℕ) → lock_at kept x s ≡ lock_at whole x s
  pub late : (x : Cell) (s : ℕ) (p : Cell) → lock_at whole x s ≡ Some p → c < s

-- a commit timestamp that a transaction has is a later one
abbrev pub IsLatePhase : ℕ → Phase → Type 0
IsLatePhase c (Phase.Stamped d) = c < d.0
IsLatePhase c (Phase.Committed d) = c < d.0
IsLatePhase c _ = Unit {0}

-- transactions that began later are the same, and have later commits
pub record SameTransactions (c : ℕ) (whole kept : Transactions) : Type 0 where
  pub same : (s : ℕ) → c < s → map.get kept s ≡ map.get whole s
  pub phases : (s : ℕ) (t : TransactionOf) → c < s → map.get whole s ≡ Some t → IsLatePhase c t.phase

-- the table with what was kept in the place of what it has: marks, observers, clock and seats are its own
abbrev pub carried : StateOf → Entries → Transactions → StateOf
carried whole entries transactions = record whole { entries = entries; transactions = transactions }

-- the table without its marks
abbrev pub unmarked : StateOf → StateOf
unmarked state = record state { marks = map.empty }

-- no lock stands on it
abbrev pub IsUnlocked : StateOf → Type 0
IsUnlocked state = (x : Cell) (s : ℕ) → lock_at state.entries x s ≡ None

-- since c, these entries and transactions serve for those of the whole table
pub record IsMirroredBy (c : ℕ) (whole : StateOf) (entries : Entries) (transactions : Transactions) : Type 0 where
  pub since : c ≤ whole.clock
  pub room : c < last_timestamp
  pub entries_are : SameEntries c whole.entries entries
  pub transactions_are : SameTransactions c whole.transactions transactions

-- a quiet table is mirrored by itself, since its clock
abbrev pub QuietMirrorsItself : Type 0
QuietMirrorsItself = (state : StateOf) → IsSoundTable state → IsQuiet state → state.clock < last_timestamp → IsMirroredBy state.clock state state.entries state.transactions

-- of what was kept may go: a transaction that had begun by c; a write record below the version at c; and data of a start by c that
-- isn't that of the version
pub record OldMayGo (c : ℕ) (whole : StateOf) (e : Entries) (ts : Transactions) : Type 0 where
  pub transaction : (s : ℕ) → s ≤ c → IsMirroredBy c whole e (map.remove ts s)
  pub record_of : (x : Cell) (v : Revision) (d : ℕ) → IsVersion whole.entries x c v → d < v.commit.0 → IsMirroredBy c whole (map.remove e (slot_at x Sort.Write d)) ts
  pub data_of : (x : Cell) (s : ℕ) → s ≤ c → ((v : Revision) → IsVersion whole.entries x c v → v.start.0 ≢ s) → IsMirroredBy c whole (map.remove e (slot_at x Sort.Data s)) ts

abbrev pub OldMayBeDropped : Type 0
OldMayBeDropped = (c : ℕ) (whole : StateOf) (e : Entries) (ts : Transactions) → IsMirroredBy c whole e ts → OldMayGo c whole e ts

-- and a carried table is quiet exactly where the whole one is
abbrev pub QuietCarriesOver : Type 0
QuietCarriesOver = (c : ℕ) (whole : StateOf) (e : Entries) (ts : Transactions) → IsMirroredBy c whole e ts → IsQuiet (carried whole e ts) ↔ IsQuiet whole
