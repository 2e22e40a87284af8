-- No step of a plan comes at a wrong time: in a legal journal it isn't refused for its phase, for its cell, or as
-- prewritten already. The law `plans_are_allowed` cites it. It asks that nobody else names the plan's start, and
-- nothing of the other steps, so that it holds in whatever order they come.
use Rattle.std.specs.Prelude.{◌≡◌, ◌≢◌, ℕ, ◌<◌, ◌^◌, Bool, false, ◌==◌, List, map, Some, filter}
use Rattle.std.specs.FinMap as finite
use Rattle.pb_txn.specs.Words.{Reason, Work, Declared, Step, ObserverOf, observed_column, StateOf, TransactionOf, step_reason, Entry, Received, IsLegal}
use Rattle.pb_txn.specs.Plans.{PlanOf, fresh, next_of}
use Rattle.pb_txn.specs.Conversations.{Converses}

-- the step names the start, and is no read: reads are left aside, since a run reads before its plan begins
abbrev pub names : ℕ → Step → Bool
names s (Step.Declare start what) = s == start.0
names s (Step.Prewrite start x) = s == start.0
names s (Step.Stamp start) = s == start.0
names s (Step.CommitPrimary start) = s == start.0
names s (Step.CommitSecondary start x) = s == start.0
names s _ = false

-- the entries whose steps name the start, reads aside, are this seat's, and those of this conversation that do
abbrev pub HasSaid : List Entry → ℕ → ℕ → List Received → Type 0
HasSaid journal seat s said =
    filter (λ e. names s e.step) journal ≡ map (λ r. record { seat = seat; step = r.step; answer = r.answer }) (filter (λ r. names s r.step) said)

-- row and column are numbers that a record has room for
abbrev pub IsWorkInRange : List ObserverOf → Work → Type 0
IsWorkInRange observers Work.Script = Unit {0}
IsWorkInRange observers (Work.Run o row) = (row.0 < 2 ^ 64) × (observed_column observers o < 2 ^ 64)

-- the refusal isn't 42, 45 or 46; 40, 41, 43 and 44 are for the plan's owner to see to
pub record IsTimely (why : Reason) : Type 0 where
  pub phase : why ≢ Reason.WrongPhase
  pub declared : why ≢ Reason.NotDeclared
  pub once : why ≢ Reason.AlreadyPrewritten

-- where the entries of a legal journal that name the start are the plan's, its next step isn't refused for such a
-- reason
abbrev pub PlansAreAllowed : Type 0
PlansAreAllowed = (observers : List ObserverOf) (seats clock : ℕ) (journal : List Entry) (state : StateOf) → IsLegal observers seats clock journal state
    → (seat s : ℕ) (what : Declared) (said : List Received) (q : PlanOf) (step : Step) (why : Reason)
    → ((t : TransactionOf) → finite.get state.transactions s ≡ Some t → IsWorkInRange observers t.work)
    → Converses (fresh s what) said q → HasSaid journal seat s said → next_of q ≡ Some step
    → step_reason state seat step ≡ Some why → IsTimely why
