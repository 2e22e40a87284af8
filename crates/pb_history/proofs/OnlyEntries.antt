-- The steps that finish or undo what others left change entries alone.
use Rattle.std.proofs.Common.{arith, ◌≡◌, ℕ, Bool, is_some}
use Rattle.pb_history.specs.Words.{Cell, StateOf, lock_at, CommitsSecondary, if_locked}

-- all but the entries is as it was
pub record OnlyEntries (old new : StateOf) : Type 0 where
  pub transactions : new.transactions ≡ old.transactions
  pub clock : new.clock ≡ old.clock
  pub observers : new.observers ≡ old.observers

pub only_entries : (old new to : StateOf) → new ≡ to → OnlyEntries old to → OnlyEntries old new
only_entries old new to is o = grind arith

-- also where there is no lock left to replace
if_locked_keeps : (old : StateOf) (locked : Bool) (x : Cell) (s c : ℕ) → OnlyEntries old (if_locked old locked x s c)
if_locked_keeps old locked x s c = grind arith

pub secondary_keeps : (old : StateOf) (seat s : ℕ) (x : Cell) (new : StateOf) → CommitsSecondary old seat s x new → OnlyEntries old new
secondary_keeps old seat s x new m = only_entries old new (if_locked old (is_some (lock_at old.entries x s)) x s m.c) m.new_is (if_locked_keeps old (is_some (lock_at old.entries x s)) x s m.c)
