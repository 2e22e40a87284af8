-- Anyone takes a lock off its own primary. Its transaction may still be at work, and can't commit any more (OSDI 2010,
-- section 2.2).
use Rattle.std.specs.Prelude.{◌≡◌, ℕ, false}
use Rattle.std.specs.Ordering.{eq_by_cmp}
use Rattle.pb_steps.specs.Words.{Cell, cell_cmp}
use Rattle.pb_steps.specs.State.{StateOf}
use Rattle.pb_steps.specs.Readings.{NoLock, IsLockOn}
use Rattle.pb_steps.specs.Commits.{rolls_back}

-- no lock stands on x
pub record MeetsNoLock (old : StateOf) (x : Cell) (new : StateOf) : Type 0 where
  pub unlocked : NoLock old.entries x
  pub new_is : new ≡ old

-- the lock on x has another primary
pub record MeetsSecondary (old : StateOf) (x : Cell) (start : ℕ) (primary : Cell) (new : StateOf) : Type 0 where
  pub locked : IsLockOn old.entries x start primary
  pub other : eq_by_cmp cell_cmp primary x ≡ false
  pub new_is : new ≡ old

-- it is its own primary's: lock and data go
pub record Settles (old : StateOf) (x : Cell) (new : StateOf) : Type 0 where
  pub start : ℕ
  pub locked : IsLockOn old.entries x start x
  pub new_is : new ≡ rolls_back old x start
