-- The primary's lock is replaced by a write record, and the transaction is committed (OSDI 2010, section 2.2). Where that
-- lock is gone, it is lost.
use Rattle.std.specs.Prelude.{◌≡◌, ℕ, true, false, not, [], ◌∷◌, Some, is_some}
use Rattle.pb_steps.specs.Words.{Cell, Reason, primary_in}
use Rattle.pb_steps.specs.declared.phase.Phase.{Phase}
use Rattle.pb_steps.specs.Phases.{is_stamped}
use Rattle.pb_steps.specs.State.{StateOf, TransactionOf, with_transaction}
use Rattle.pb_steps.specs.Readings.{lock_at}
use Rattle.pb_steps.specs.Commits.{commits}
use Rattle.pb_steps.specs.Reasons.{Reasons, IsOwn}

-- a transaction without its commit timestamp can't be committed
abbrev pub commit_reasons : TransactionOf → Reasons
commit_reasons t = (Reason.WrongPhase, not (is_stamped t.phase)) ∷ []

-- the primary has the transaction's lock, which becomes its write record
pub record CommitsPrimary (old : StateOf) (seat s : ℕ) (new : StateOf) : Type 0 where
  pub t : TransactionOf
  pub own : IsOwn old seat s t
  pub c : ℕ
  pub stamped : t.phase ≡ Phase.Stamped (record { 0 = c })
  pub primary : Cell
  pub primary_is : primary_in t.declared ≡ Some primary
  pub locked : is_some (lock_at old.entries primary s) ≡ true
  pub new_is : new ≡ with_transaction (commits old primary s c) s (record t { phase = Phase.Committed (record { 0 = c }) })

-- somebody settled the primary before: nothing is written, and the transaction has failed
pub record Loses (old : StateOf) (seat s : ℕ) (new : StateOf) : Type 0 where
  pub t : TransactionOf
  pub own : IsOwn old seat s t
  pub c : ℕ
  pub stamped : t.phase ≡ Phase.Stamped (record { 0 = c })
  pub primary : Cell
  pub primary_is : primary_in t.declared ≡ Some primary
  pub unlocked : is_some (lock_at old.entries primary s) ≡ false
  pub new_is : new ≡ with_transaction old s (record t { phase = Phase.Failed })
