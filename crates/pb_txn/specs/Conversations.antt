-- What a plan has asked, step by step, with the answers that such steps can have, whatever table gave them.
use Rattle.std.specs.Prelude.{List}
use Rattle.pb_txn.specs.Words.{Step, Answer, Received, JobOf, asking_job, IsConversation}
use Rattle.pb_txn.specs.Plans.{PlanOf, next_of, answered}

-- a step with its answer, as a seat's list keeps it
abbrev pub told : Step → Answer → Received
told step answer = record { step = step; answer = answer }

-- a plan does nothing but ask
abbrev pub plan_job : JobOf PlanOf
plan_job = asking_job next_of answered

-- from one place to another, each of its next steps was answered with one of its answers
abbrev pub Converses : PlanOf → List Received → PlanOf → Type 0
Converses p said q = IsConversation plan_job p said q
