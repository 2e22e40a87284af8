-- A read in the snapshot of a transaction's start, or in one of an earlier timestamp that it names (OSDI 2010, section 2.2): a
-- lock at or below that timestamp hides what the cell holds.
use Rattle.std.specs.Prelude.{◌≡◌, ℕ, ◌<◌, ◌≤◌, true, not, nat_lt, [], ◌∷◌, ◌++◌, Option, Some, None}
use Rattle.pb_steps.specs.Words.{Cell, Revision, Ts, Reason}
use Rattle.pb_steps.specs.declared.step.Step.{Step}
use Rattle.pb_steps.specs.declared.step.Answer.{Answer}
use Rattle.pb_steps.specs.Phases.{is_reading}
use Rattle.pb_steps.specs.Reads.{read_up_to}
use Rattle.pb_steps.specs.State.{StateOf, TransactionOf, with_transaction}
use Rattle.pb_steps.specs.Readings.{lock_at, NoLockUpTo, IsVersion, NoVersion}
use Rattle.pb_steps.specs.Reasons.{Reasons, IsOwn}

-- a read in the snapshot of its start, or of a timestamp that it names
abbrev pub read_step : Ts → Cell → Option Ts → Step
read_step s x None = Step.Read s x
read_step s x (Some t) = Step.ReadAt s x t

-- nothing is read once something is declared, since a declared run accounts for all reads of its transaction
abbrev pub read_reasons : TransactionOf → Reasons
read_reasons t = (Reason.WrongPhase, not (is_reading t.phase)) ∷ []

-- of a read at the timestamp u of a transaction of start s
abbrev pub read_at_reasons : ℕ → ℕ → TransactionOf → Reasons
read_at_reasons s u t = (Reason.WrongPhase, not (is_reading t.phase)) ∷ (Reason.LaterThanStart, nat_lt s u) ∷ []

-- a transaction that records a read, at the timestamp that it named if it named one
abbrev pub with_read : TransactionOf → Cell → Option Ts → Answer → TransactionOf
with_read t x at a = record t { reads = t.reads ++ record { cell = x; at = at; answer = a } ∷ [] }

-- a lock, of this start and primary, stands on x, at most the timestamp read at
pub record ReadsLocked (old : StateOf) (seat s : ℕ) (x : Cell) (at : Option Ts) (lock : ℕ × Cell) (new : StateOf) : Type 0 where
  pub t : TransactionOf
  pub own : IsOwn old seat s t
  pub reading : is_reading t.phase ≡ true
  pub in_time : read_up_to s at ≤ s
  pub low : lock.0 ≤ read_up_to s at
  pub locked : lock_at old.entries x lock.0 ≡ Some lock.1
  pub newest : (u : ℕ) → lock.0 < u → u ≤ read_up_to s at → lock_at old.entries x u ≡ None
  pub new_is : new ≡ old

-- none does: the newest version at most that is returned and recorded
pub record ReadsFound (old : StateOf) (seat s : ℕ) (x : Cell) (at : Option Ts) (v : Revision) (new : StateOf) : Type 0 where
  pub t : TransactionOf
  pub own : IsOwn old seat s t
  pub reading : is_reading t.phase ≡ true
  pub in_time : read_up_to s at ≤ s
  pub unlocked : NoLockUpTo old.entries x (read_up_to s at)
  pub version : IsVersion old.entries x (read_up_to s at) v
  pub new_is : new ≡ with_transaction old s (with_read t x at (Answer.Found v.start v.commit v.content))

-- and there is no version at most that
pub record ReadsAbsent (old : StateOf) (seat s : ℕ) (x : Cell) (at : Option Ts) (new : StateOf) : Type 0 where
  pub t : TransactionOf
  pub own : IsOwn old seat s t
  pub reading : is_reading t.phase ≡ true
  pub in_time : read_up_to s at ≤ s
  pub unlocked : NoLockUpTo old.entries x (read_up_to s at)
  pub none : NoVersion old.entries x (read_up_to s at)
  pub new_is : new ≡ with_transaction old s (with_read t x at Answer.Absent)
