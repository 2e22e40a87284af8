-- A table as a snapshot leaves it, seen as functions.
use Rattle.std.specs.Prelude.{◌≡◌, ℕ, ◌<◌, ◌≤◌, ◌⊎◌, ◌^◌, true, Some, None}
use Rattle.pb_state.specs.Words.{Cell, Content, Phase, RecordedRead, Has, TableView, IsSoundView, IsCommittedAt}

-- all transactions are committed, have prewritten what they declared, and stand with it; of two on one cell, one was committed
-- before the other began; and no cell has a lock
pub record IsSnapshotView (v : TableView) : Type 0 where
  pub small : v.clock < 2 ^ 64
  pub committed : (s : ℕ) (h : Phase) → v.phase s ≡ Some h → (c : ℕ) × (h ≡ Phase.Committed (record { 0 = c })) × (s < c) × (c ≤ v.clock)
  pub one : (s u c : ℕ) → IsCommittedAt v s c → IsCommittedAt v u c → s ≡ u
  pub unlocked : (x : Cell) (s : ℕ) → v.lock x s ≡ None
  pub unread : (s : ℕ) (r : RecordedRead) → Has (v.reads s) r → ⊥
  pub declared : (s : ℕ) (x : Cell) → v.prewritten s x ≡ true → ((c : ℕ) × IsCommittedAt v s c) × ((k : Content) × (v.content s x ≡ Some k))
  pub prewritten : (s : ℕ) (x : Cell) (k : Content) → v.content s x ≡ Some k → v.prewritten s x ≡ true
  pub primary : (s : ℕ) (p : Cell) → v.primary s ≡ Some p → (k : Content) × (v.content s p ≡ Some k)
  pub written : (x : Cell) (c s : ℕ) → v.write x c ≡ Some s → IsCommittedAt v s c × ((k : Content) × (v.content s x ≡ Some k) × (v.stored x s ≡ Some k))
  pub stands : (s c : ℕ) (x : Cell) (k : Content) → IsCommittedAt v s c → v.content s x ≡ Some k → v.write x c ≡ Some s
  pub apart : (x : Cell) (c s d u : ℕ) → v.write x c ≡ Some s → v.write x d ≡ Some u → (s ≡ u → ⊥) → (c < u) ⊎ (d < s)

-- it is sound, so that a state may begin with it
abbrev pub SnapshotsAreSound : Type 0
SnapshotsAreSound = (v : TableView) → IsSnapshotView v → IsSoundView v
