-- The steps of a plan keep whose transaction it is and what for, and it declares nothing but at first.
use Rattle.std.proofs.Common.{arith, ◌≡◌, ℕ, Bool, true, false, cond, List, [], ◌∷◌, length, Option, Some, refl, sym, ap, subst, ◌∙◌}
use Rattle.pb_notify.specs.Words.{Ts, Declared, Step, Answer, ObserverOf, TransactionOf, Received, names_start, transaction_after, is_begin, PlanPlace, declared_cells, place_after, step_at, PlanOf, answered, next_of, Converses, no_part, one_part, took, went}
use Rattle.pb_conversations.proofs.Asking.{conversation_unfolds}
use Rattle.pb_notify.proofs.RecordedReads.{after}

-- ---- after an answer it declares no more

-- its declaration was answered
abbrev pub IsLater : PlanPlace → Type 0
IsLater PlanPlace.Declaring = ⊥
IsLater _ = Unit {0}

-- no answer leads back to the declaration
later : (count : ℕ) (p : PlanPlace) (a : Answer) → IsLater (place_after count p a)
later count p a = grind arith

-- so a plan that still declares has said nothing
pub declaring_said_nothing : (p q : PlanOf) (said : List Received) → q.place ≡ PlanPlace.Declaring → Converses p said q → said ≡ []
declaring_said_nothing p q said e no_part = refl
declaring_said_nothing p q said e (one_part t u had more talk (took r next can to)) = absurd (subst IsLater (ap (λ (z : PlanOf). z.place) (sym to) ∙ e) (later (length (declared_cells t.what)) t.place r.answer))
declaring_said_nothing p q said e (one_part t u had more talk (went none)) = absurd none

-- ---- what its steps are

-- a step that a plan of this start may ask at this place
abbrev pub IsPlanStep : ℕ → PlanPlace → Step → Type 0
IsPlanStep s p (Step.Declare start what) = p ≡ PlanPlace.Declaring
IsPlanStep s p (Step.Prewrite start x) = start.0 ≡ s
IsPlanStep s p (Step.Stamp start) = start.0 ≡ s
IsPlanStep s p (Step.CommitPrimary start) = start.0 ≡ s
IsPlanStep s p (Step.CommitSecondary start x) = start.0 ≡ s
IsPlanStep s p (Step.Settle x) = Unit {0}
IsPlanStep s p (Step.Clear x) = Unit {0}
IsPlanStep s p _ = ⊥

-- the step at a place is one
pub plan_step : (s : ℕ) (what : Declared) (p : PlanPlace) (t : Step) → step_at s what p ≡ Some t → IsPlanStep s p t
plan_step s what p t e = grind arith

-- a plan begins no transaction
no_begin : (s : ℕ) (p : PlanPlace) (t : Step) → IsPlanStep s p t → is_begin t ≡ false
no_begin s p t i = grind arith

-- ---- what they leave

-- the same seat and work
pub record IsSameRun (u v : TransactionOf) : Type 0 where
  pub seat : v.seat ≡ u.seat
  pub work : v.work ≡ u.work

-- the transaction is still there, and is the same run's
abbrev pub KeepsRun : TransactionOf → Option TransactionOf → Type 0
KeepsRun u o = (v : TransactionOf) × (o ≡ Some v) × IsSameRun u v

module _ (observers : List ObserverOf) (seat : ℕ) where
  after_one : (step : Step) (a : Answer) (u : TransactionOf) → is_begin step ≡ false → KeepsRun u (transaction_after observers seat step a (Some u))
  after_one (Step.Begin work) a u n = absurd cc
  after_one (Step.Read m x) (Answer.Found start commit content) u n = (_, refl, record { seat = refl; work = refl })
  after_one (Step.Read m x) Answer.Absent u n = (_, refl, record { seat = refl; work = refl })
  after_one (Step.ReadAt m x t) (Answer.Found start commit content) u n = (_, refl, record { seat = refl; work = refl })
  after_one (Step.ReadAt m x t) Answer.Absent u n = (_, refl, record { seat = refl; work = refl })
  after_one (Step.Declare m what) Answer.Done u n = (_, refl, record { seat = refl; work = refl })
  after_one (Step.Prewrite m x) Answer.Done u n = (_, refl, record { seat = refl; work = refl })
  after_one (Step.Prewrite m x) Answer.Conflict u n = (_, refl, record { seat = refl; work = refl })
  after_one (Step.Stamp m) (Answer.At c) u n = (_, refl, record { seat = refl; work = refl })
  after_one (Step.CommitPrimary m) Answer.Committed u n = (_, refl, record { seat = refl; work = refl })
  after_one (Step.CommitPrimary m) Answer.Lost u n = (_, refl, record { seat = refl; work = refl })
  after_one _ _ u n = (u, refl, record { seat = refl; work = refl })

  if_named : (b : Bool) (u : TransactionOf) (o : Option TransactionOf) → KeepsRun u o → KeepsRun u (cond b o (Some u))
  if_named true u o k = k
  if_named false u o k = (u, refl, record { seat = refl; work = refl })

  pub plan_keeps : (s : Ts) (p q : PlanOf) (said : List Received) (u : TransactionOf) → Converses p said q → KeepsRun u (after observers seat s said (Some u))
  plan_keeps s p q [] u talk = (u, refl, record { seat = refl; work = refl })
  plan_keeps s p q (r ∷ rs) u talk =
      let first = conversation_unfolds next_of answered p q (r ∷ rs) talk in
      let n = no_begin p.start p.place r.step (plan_step p.start p.what p.place r.step first.0) in
      let k = if_named (names_start s.0 r.step r.answer) u _ (after_one r.step r.answer u n) in
      let on = plan_keeps s (answered p r.answer) q rs k.0 first.2 in
      (on.0, ap (after observers seat s rs) k.1 ∙ on.1, record { seat = on.2.seat ∙ k.2.seat; work = on.2.work ∙ k.2.work })
