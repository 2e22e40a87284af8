-- What a committed change has said.
use Rattle.std.proofs.Common.{List}
use Rattle.pb_worker.specs.Words.{Ts, Writes, Step, Answer, Work, Declared, Received, Has, told}

-- ---- lists

-- all of the first are items of the second
abbrev pub Within : List Received → List Received → Type 0
Within xs ys = (r : Received) → Has xs r → Has ys r

-- ---- commits

-- that the transaction of this start was committed
abbrev pub commit_of : Ts → Received
commit_of s = told (Step.CommitPrimary s) Answer.Committed

-- a transaction of this start began for a script, declared the batch, was stamped and is committed
pub record HasCommitted (batch : Writes) (start : Ts) (said : List Received) : Type 0 where
  pub commit : Ts
  pub begun : Has said (told (Step.Begin Work.Script) (Answer.At start))
  pub declared : Has said (told (Step.Declare start (Declared.Script batch)) Answer.Done)
  pub stamped : Has said (told (Step.Stamp start) (Answer.At commit))
  pub committed : Has said (commit_of start)

-- and so it is in the whole conversation
pub committed_within : (batch : Writes) (start : Ts) (part said : List Received) → Within part said → HasCommitted batch start part → HasCommitted batch start said
committed_within batch start part said into h = record { commit = h.commit; begun = into _ h.begun; declared = into _ h.declared; stamped = into _ h.stamped; committed = into _ h.committed }
