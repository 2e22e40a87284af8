-- Plans, as their owners see them. The contracts of `Plan` cite them, and so do those of `ChangeJob` and of the jobs
-- of `pb_notify`, which follow plans.
use Rattle.std.specs.Prelude.{◌≡◌, ℕ, [], length, Option, Some, None, MatchOption}
use Rattle.pb_txn.specs.Words.{Declared, Step, Answer, CanAnswer}
use Rattle.pb_txn.specs.declared.place.Outcome.{Outcome}
use Rattle.pb_txn.specs.declared.place.PlanPlace.{PlanPlace}
use Rattle.pb_txn.specs.Places.{declared_cells, place_after, later_step, step_at, LiesWithin}

-- a transaction's start, what it declares, and which step is next
pub record PlanOf : Type 0 where
  pub start : ℕ
  pub what : Declared
  pub place : PlanPlace

-- before its first step
abbrev pub fresh : ℕ → Declared → PlanOf
fresh s what = record { start = s; what = what; place = PlanPlace.Declaring }

-- the step that a plan asks next, none once it is over
abbrev pub next_of : PlanOf → Option Step
next_of p = step_at p.start p.what p.place

-- after its next step was answered
abbrev pub answered : PlanOf → Answer → PlanOf
answered p a = record p { place = place_after (length (declared_cells p.what)) p.place a }

-- there is an outcome at the end alone
abbrev pub outcome_at : PlanPlace → Option Outcome
outcome_at (PlanPlace.Over o) = Some o
outcome_at _ = None

-- how the transaction ended, once it is over
abbrev pub outcome_of : PlanOf → Option Outcome
outcome_of p = outcome_at p.place

-- there is a next step, which can have this answer
abbrev pub CanTake : Option Step → Answer → Type 0
CanTake next a = MatchOption next ⊥ (λ s. CanAnswer s a)

-- ---- how a plan is kept

-- what the kept step declares: a plan keeps none but a declaration
abbrev pub what_in : Step → Declared
what_in (Step.Declare s what) = what
what_in _ = Declared.Script []

-- the declaration is kept as its step, and each later step as it comes, so that the next one can be lent
pub record IsPlan (s : ℕ) (declare : Step) (later : Option Step) (place : PlanPlace) : Type 0 where
  pub declares : declare ≡ Step.Declare (record { 0 = s }) (what_in declare)
  pub stored : later ≡ later_step s (declared_cells (what_in declare)) place
  pub fits : LiesWithin (length (declared_cells (what_in declare))) place

-- the step is a declaration
abbrev pub IsDeclaration : Step → Type 0
IsDeclaration (Step.Declare s what) = Unit {0}
IsDeclaration _ = ⊥
