-- What was found for a step that isn't refused: the step that it is, and that all is as the state has it.
use Rattle.std.specs.Prelude.{◌≡◌, ℕ, Some, None, Result, Ok, Err, slice_get}
use Rattle.std.specs.FinMap as map
use Rattle.pb_state.specs.Words.{Reason, content_in, primary_in, Step, Phase, StateOf, TransactionOf, Transactions, IsOwn, read_step, step_reason}
use Rattle.pb_state.specs.Cells.{acknowledgment_by}
use Rattle.pb_state.specs.declared.admitted.TransactionAt.{TransactionAt}
use Rattle.pb_state.specs.declared.admitted.Admitted.{Admitted}

-- the transaction stands there, in the order of starts
abbrev pub IsTransactionAt : Transactions → TransactionAt → TransactionOf → Type 0
IsTransactionAt ts at t = slice_get (map.entries ts) at.place ≡ Some (at.start.0, t)

-- it is the seat's own, and stands there
pub record IsOwnAt (s : StateOf) (seat : ℕ) (at : TransactionAt) (t : TransactionOf) : Type 0 where
  pub own : IsOwn s seat at.start.0 t
  pub there : IsTransactionAt s.transactions at t

-- the step, without what was found
abbrev pub step_admitted : Admitted → Step
step_admitted (Admitted.Begin work) = Step.Begin work
step_admitted (Admitted.Read by x at) = read_step by.start x at
step_admitted (Admitted.Declare by what ack) = Step.Declare by.start what.now
step_admitted (Admitted.Prewrite by x content primary) = Step.Prewrite by.start x
step_admitted (Admitted.Stamp by) = Step.Stamp by.start
step_admitted (Admitted.CommitPrimary by commit primary) = Step.CommitPrimary by.start
step_admitted (Admitted.CommitSecondary start x commit) = Step.CommitSecondary start x
step_admitted (Admitted.Settle x) = Step.Settle x
step_admitted (Admitted.Clear x) = Step.Clear x
step_admitted (Admitted.NextMark after) = Step.NextMark after
step_admitted (Admitted.Sweep x) = Step.Sweep x

-- what was found is what the seat's transaction has
abbrev pub Finds : StateOf → ℕ → Admitted → Type 0
Finds s seat (Admitted.Read by x at) = (t : TransactionOf) × IsOwnAt s seat by t
Finds s seat (Admitted.Declare by what ack) = (t : TransactionOf) × IsOwnAt s seat by t × (ack ≡ acknowledgment_by s.observers t.work)
Finds s seat (Admitted.Prewrite by x content primary) = (t : TransactionOf) × IsOwnAt s seat by t × (content_in t.declared x ≡ Some content) × (primary_in t.declared ≡ Some primary)
Finds s seat (Admitted.Stamp by) = (t : TransactionOf) × IsOwnAt s seat by t
Finds s seat (Admitted.CommitPrimary by commit primary) = (t : TransactionOf) × IsOwnAt s seat by t × (t.phase ≡ Phase.Stamped commit) × (primary_in t.declared ≡ Some primary)
Finds s seat (Admitted.CommitSecondary start x commit) = (t : TransactionOf) × IsOwn s seat start.0 t × (t.phase ≡ Phase.Committed commit)
Finds s seat _ = Unit {0}

-- the step isn't refused, and what was found is what the state has
pub record Admits (s : StateOf) (seat : ℕ) (a : Admitted) : Type 0 where
  pub allowed : step_reason s seat (step_admitted a) ≡ None
  pub found : Finds s seat a

-- what is returned for a step: what was found for it, or why it is refused
abbrev pub TellsAdmission : StateOf → ℕ → Step → Result Admitted Reason → Type 0
TellsAdmission s seat step (Ok a) = (step_admitted a ≡ step) × Admits s seat a
TellsAdmission s seat step (Err r) = step_reason s seat step ≡ Some r
