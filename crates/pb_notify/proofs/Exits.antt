-- Where a machine stood before its exit, by what it left.
use Rattle.std.proofs.Common.{◌≡◌, ℕ, arith}
use Rattle.pb_notify.specs.Words.{Moved, IsAtSlot, Position, Finishes, Meant, IsMeant}
use Rattle.pb_notify.specs.Machines.{exit_at, ExitLeaves}
use Rattle.pb_notify.specs.Steps.{MovesOn}

module _ (old new : Position) (r : ℕ) (f : Meant) (taken : ℕ) (did : MovesOn old (Moved.Ended r) new) (k : Finishes new f) (before : taken ≡ old.taken) where
  -- the machine stood where what it left says, with the instructions before its exit
  pub at_exit : exit_at f taken ≡ old
  at_exit = grind arith

  -- what was taken from it is what its exit leaves there
  pub exit_leaves : IsMeant f → ExitLeaves (exit_at f taken) f
  exit_leaves meant = grind arith

  -- the slot at which it stands once it has ended is the exit's
  pub at_slot : (slot : ℕ) → IsAtSlot new slot → IsAtSlot (exit_at f taken) slot
  at_slot slot at = grind arith
