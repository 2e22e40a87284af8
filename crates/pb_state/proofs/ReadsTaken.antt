-- A read was answered and recorded.
use Rattle.std.proofs.Common.{◌≡◌, ℕ, ◌≤◌, true, Option, None, arith}
use Rattle.pb_state.specs.Words.{Cell, Revision, Ts, Answer, is_reading, read_up_to, found_answer, StateOf, TransactionOf, with_transaction, NoLockUpTo, IsVersion, NoVersion, IsOwn, read_step, with_read, ReadsAbsent, step_reason, StepCase, TableStep}

case_absent : (old : StateOf) (seat : ℕ) (s : Ts) (x : Cell) (at : Option Ts) (new : StateOf) → ReadsAbsent old seat s.0 x at new → StepCase old seat (read_step s x at) Answer.Absent new
case_absent old seat s x at new m = grind arith

-- the transaction of a read that isn't refused reads, up to its start at most
may_read : (old : StateOf) (seat : ℕ) (start : Ts) (x : Cell) (at : Option Ts) (t : TransactionOf) → step_reason old seat (read_step start x at) ≡ None → IsOwn old seat start.0 t
    → (is_reading t.phase ≡ true) × (read_up_to start.0 at ≤ start.0)
may_read old seat start x at t allowed own = grind arith

module _ (old new : StateOf) (seat : ℕ) (start : Ts) (x : Cell) (at : Option Ts) (t : TransactionOf) (allowed : step_reason old seat (read_step start x at) ≡ None) (own : IsOwn old seat start.0 t)
    (unlocked : NoLockUpTo old.entries x (read_up_to start.0 at)) (a : Answer) (put : new ≡ with_transaction old start.0 (with_read t x at a)) where
  pub found_is_taken : (v : Revision) → a ≡ found_answer v → IsVersion old.entries x (read_up_to start.0 at) v → TableStep old seat (read_step start x at) a new
  found_is_taken v is version = grind arith

  pub absent_is_taken : a ≡ Answer.Absent → NoVersion old.entries x (read_up_to start.0 at) → TableStep old seat (read_step start x at) a new
  absent_is_taken is none = grind (arith, may_read, case_absent)
