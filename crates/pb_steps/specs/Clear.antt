-- Anyone takes a lock off a cell once its primary has none of that start (OSDI 2010, section 2.2). The write record of the
-- primary shows that the transaction is committed, and its commit; where there is none, the transaction never will be.
use Rattle.std.specs.Prelude.{◌≡◌, ◌≢◌, ℕ, ◌<◌, ◌^◌, ◌⊎◌, true, false, Some, is_some}
use Rattle.std.specs.Ordering.{eq_by_cmp}
use Rattle.pb_steps.specs.Words.{Cell, cell_cmp, Entries}
use Rattle.pb_steps.specs.State.{StateOf}
use Rattle.pb_steps.specs.Readings.{lock_at, write_at, IsLockOn}
use Rattle.pb_steps.specs.Commits.{commits, rolls_back}

-- x has no write record of start s
abbrev pub NoWriteOf : Entries → Cell → ℕ → Type 0
NoWriteOf e x s = (c : ℕ) → c < 2 ^ 64 → write_at e x c ≢ Some s

-- the cell is its own primary, or that has the lock of this start
pub record ClearWaits (old : StateOf) (x : Cell) (new : StateOf) : Type 0 where
  pub start : ℕ
  pub primary : Cell
  pub locked : IsLockOn old.entries x start primary
  pub why : (eq_by_cmp cell_cmp primary x ≡ true) ⊎ (is_some (lock_at old.entries primary start) ≡ true)
  pub new_is : new ≡ old

-- the primary has the write record c of this start
pub record ClearsCommitted (old : StateOf) (x : Cell) (c : ℕ) (new : StateOf) : Type 0 where
  pub start : ℕ
  pub primary : Cell
  pub locked : IsLockOn old.entries x start primary
  pub other : eq_by_cmp cell_cmp primary x ≡ false
  pub unlocked : is_some (lock_at old.entries primary start) ≡ false
  pub written : write_at old.entries primary c ≡ Some start
  pub new_is : new ≡ commits old x start c

-- it has neither lock nor write record of this start
pub record ClearsBack (old : StateOf) (x : Cell) (new : StateOf) : Type 0 where
  pub start : ℕ
  pub primary : Cell
  pub locked : IsLockOn old.entries x start primary
  pub other : eq_by_cmp cell_cmp primary x ≡ false
  pub unlocked : is_some (lock_at old.entries primary start) ≡ false
  pub none : NoWriteOf old.entries primary start
  pub new_is : new ≡ rolls_back old x start
