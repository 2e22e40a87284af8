-- The other locks of a committed transaction are replaced by write records, each by a step of its own (OSDI 2010, section
-- 2.2). Where one is gone, it was replaced by whoever cleared it.
use Rattle.std.specs.Prelude.{◌≡◌, ℕ, Bool, true, not, if◌then◌else◌, [], ◌∷◌, is_none, is_some}
use Rattle.pb_steps.specs.Words.{Cell, Reason, content_in}
use Rattle.pb_steps.specs.declared.phase.Phase.{Phase}
use Rattle.pb_steps.specs.Phases.{is_committed}
use Rattle.pb_steps.specs.State.{StateOf, TransactionOf}
use Rattle.pb_steps.specs.Readings.{lock_at}
use Rattle.pb_steps.specs.Commits.{commits}
use Rattle.pb_steps.specs.Reasons.{Reasons, IsOwn}

-- not committed yet, since the primary decides; then a cell that isn't one of its own
abbrev pub secondary_reasons : Cell → TransactionOf → Reasons
secondary_reasons x t = (Reason.WrongPhase, not (is_committed t.phase)) ∷ (Reason.NotDeclared, is_none (content_in t.declared x)) ∷ []

-- the lock of s on x becomes its write record, if it is there
abbrev pub if_locked : StateOf → Bool → Cell → ℕ → ℕ → StateOf
if_locked old locked x s c = if locked then commits old x s c else old

-- also where its lock is gone: whoever cleared it put the same commit there
pub record CommitsSecondary (old : StateOf) (seat s : ℕ) (x : Cell) (new : StateOf) : Type 0 where
  pub t : TransactionOf
  pub own : IsOwn old seat s t
  pub c : ℕ
  pub committed : t.phase ≡ Phase.Committed (record { 0 = c })
  pub declares : is_some (content_in t.declared x) ≡ true
  pub new_is : new ≡ if_locked old (is_some (lock_at old.entries x s)) x s c
