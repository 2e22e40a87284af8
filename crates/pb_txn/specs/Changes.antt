-- Changes of a script: a transaction that begins and then follows its plan. The contracts of `ChangeJob` cite them,
-- and those of `pb_world` and `pb_threads` say by them what an actor or a worker has asked.
use Rattle.std.specs.Prelude.{◌≡◌, ◌≢◌, List, [], ◌∷◌, Option, Some, None}
use Rattle.pb_txn.specs.Words.{Writes, Ts, Work, Declared, Step, Answer, batch_in, Received, JobOf, asking_job, IsConversation, IsBeginningOf}
use Rattle.pb_txn.specs.declared.place.Outcome.{Outcome}
use Rattle.pb_txn.specs.Places.{declared_cells}
use Rattle.pb_txn.specs.Plans.{PlanOf, fresh}
use Rattle.pb_txn.specs.Plans as plans
use Rattle.pb_txn.specs.Conversations.{told}
use Rattle.pb_txn.specs.Forms.{IsWhole}

-- what is written, and the plan once the transaction has begun
pub record ChangeOf : Type 0 where
  pub batch : Writes
  pub plan : Option PlanOf

-- before its first step
abbrev pub new_change : Writes → ChangeOf
new_change batch = record { batch = batch; plan = None }

-- as long as there is no plan, the begin is next
abbrev pub next_in : Option PlanOf → Option Step
next_in None = Some (Step.Begin Work.Script)
next_in (Some p) = plans.next_of p

-- the step that a change asks next, none once it is over
abbrev pub next_of : ChangeOf → Option Step
next_of j = next_in j.plan

-- the answer of the begin is the start
abbrev pub begun_at : Writes → Answer → Option PlanOf
begun_at batch (Answer.At s) = Some (fresh s.0 (Declared.Script batch))
begun_at batch _ = None

-- the first answer makes the plan, and each later one is the plan's
abbrev pub plan_after : Writes → Option PlanOf → Answer → Option PlanOf
plan_after batch None a = begun_at batch a
plan_after batch (Some p) a = Some (plans.answered p a)

-- after its next step was answered
abbrev pub answered : ChangeOf → Answer → ChangeOf
answered j a = record j { plan = plan_after j.batch j.plan a }

-- a change that hasn't begun has no outcome
abbrev pub outcome_in : Option PlanOf → Option Outcome
outcome_in None = None
outcome_in (Some p) = plans.outcome_of p

-- how the change ended, once it is over
abbrev pub outcome_of : ChangeOf → Option Outcome
outcome_of j = outcome_in j.plan

-- ---- conversations

-- a change does nothing but ask
abbrev pub change_job : JobOf ChangeOf
change_job = asking_job next_of answered

-- from one place to another, each of its next steps was answered with one of its answers
abbrev pub Converses : ChangeOf → List Received → ChangeOf → Type 0
Converses p said q = IsConversation change_job p said q

-- it begins at this start, and the rest is that of a transaction of its cells
pub record IsWholeChange (batch : Writes) (start : Ts) (said : List Received) (o : Outcome) : Type 0 where
  pub rest : List Received
  pub said_is : said ≡ told (Step.Begin Work.Script) (Answer.At start) ∷ rest
  pub whole : IsWhole start (Declared.Script batch) (declared_cells (Declared.Script batch)) rest o

-- a whole change, whatever its start and its outcome
abbrev pub IsSomeChange : Writes → List Received → Type 0
IsSomeChange batch said = (start : Ts) × (o : Outcome) × IsWholeChange batch start said o

-- a beginning of one
abbrev pub BeginsChange : Writes → List Received → Type 0
BeginsChange batch said = IsBeginningOf (IsSomeChange batch) said

-- what a change of some cells has asked so far is such a beginning
abbrev pub ChangesConverse : Type 0
ChangesConverse = (batch : Writes) (said : List Received) (q : ChangeOf) → batch ≢ [] → Converses (new_change batch) said q → BeginsChange batch said

-- and where it is over, a whole one, with the start of its plan and its outcome
abbrev pub ChangesEnd : Type 0
ChangesEnd = (batch : Writes) (said : List Received) (q : ChangeOf) (p : PlanOf) (o : Outcome) → batch ≢ [] → Converses (new_change batch) said q → q.plan ≡ Some p → plans.outcome_of p ≡ Some o
    → IsWholeChange batch (record { 0 = p.start }) said o

-- ---- how a change is kept

-- the batch, read off the declaration or the plan, of which one is there
abbrev pub batch_by : Option Declared → Option PlanOf → Writes
batch_by (Some what) plan = batch_in what
batch_by None (Some p) = batch_in p.what
batch_by None None = []

-- until it has begun it keeps its declaration, and then its plan
abbrev pub IsChange : Option Declared → Option PlanOf → Type 0
IsChange (Some what) None = what ≡ Declared.Script (batch_in what)
IsChange None (Some p) = p.what ≡ Declared.Script (batch_in p.what)
IsChange _ _ = ⊥
