-- What a change has asked is its begin, and then what its plan has asked.
use Rattle.std.proofs.Common.{arith, ◌≡◌, ◌≢◌, ℕ, List, [], ◌∷◌, ◌++◌, Some, None, refl, sym, ap, subst, ◌∙◌}
use Rattle.pb_txn.specs.Words.{Writes, Work, Declared, Step, Answer, CanAnswer, Received, took, went, no_part, one_part}
use Rattle.pb_conversations.proofs.Asking.{conversation_unfolds}
use Rattle.pb_txn.specs.declared.place.Outcome.{Outcome}
use Rattle.pb_txn.specs.Places.{declared_cells}
use Rattle.pb_txn.specs.Plans.{PlanOf, fresh}
use Rattle.pb_txn.specs.Plans as plans
use Rattle.pb_txn.specs.Conversations as conversations
use Rattle.pb_txn.specs.Conversations.{told}
use Rattle.pb_txn.specs.Forms.{IsWhole, IsSomeWhole, BeginsPlan}
use Rattle.pb_txn.specs.Changes.{ChangeOf, new_change, next_of, answered, Converses, ChangesConverse, ChangesEnd}
use Rattle.pb_txn.proofs.Conversation.{plans_converse, plans_end}
use Rattle.pb_txn.proofs.PlanTransactions.{keeps_start_and_what}
use Rattle.pb_base.proofs.Logic.{same_some as same_step, same_some as same_plan}

-- a change that follows its plan
abbrev following : Writes → PlanOf → ChangeOf
following batch p = record { batch = batch; plan = Some p }

-- what a change asks once it has begun is what its plan asks
plan_converses : (batch : Writes) (p : PlanOf) (said : List Received) (q : ChangeOf) → Converses (following batch p) said q → (r : PlanOf) × (q ≡ following batch r) × conversations.Converses p said r
plan_converses batch p said q no_part = (p, refl, no_part)
plan_converses batch p said q (one_part t u had more talk (took r next can to)) =
    let on = plan_converses batch p had t talk in
    (plans.answered on.0 r.answer, to ∙ ap (λ (z : ChangeOf). answered z r.answer) on.1, one_part on.0 _ had (r ∷ []) on.2 (took r (ap next_of (sym on.1) ∙ next) can refl))
plan_converses batch p said q (one_part t u had more talk (went none)) = absurd none

-- its first answer is the start
pub record HasBegun (batch : Writes) (r : Received) (rest : List Received) (q : ChangeOf) : Type 0 where
  pub s : ℕ
  pub first : r ≡ told (Step.Begin Work.Script) (Answer.At (record { 0 = s }))
  pub plan : PlanOf
  pub q_is : q ≡ following batch plan
  pub said : conversations.Converses (fresh s (Declared.Script batch)) rest plan

-- a begin is answered with a start, of which the plan is then
begun : (batch : Writes) (a : Answer) (rest : List Received) (q : ChangeOf) → CanAnswer (Step.Begin Work.Script) a → Converses (answered (new_change batch) a) rest q → HasBegun batch (told (Step.Begin Work.Script) a) rest q
begun batch a rest q can t = grind (arith, plan_converses)

-- a change of which a step was answered has begun
pub answered_has_begun : (batch : Writes) (r : Received) (rest : List Received) (q : ChangeOf) → Converses (new_change batch) (r ∷ rest) q → HasBegun batch r rest q
answered_has_begun batch r rest q talk =
    let t = conversation_unfolds next_of answered (new_change batch) q (r ∷ rest) talk in
    let is : Step.Begin Work.Script ≡ r.step = same_step _ _ t.0 in
    let b = begun batch r.answer rest q (subst (λ z. CanAnswer z r.answer) (sym is) t.1) t.2 in
    subst (λ (z : Received). HasBegun batch z rest q) (λ i. record { step = is i; answer = r.answer }) b

-- some way to make it
whole : (batch : Writes) → batch ≢ [] → (rest : List Received) × IsSomeWhole (record { 0 = 0 }) (Declared.Script batch) rest
whole [] some = absurd (some refl)
whole (w ∷ ws) some = plans_converse 0 (Declared.Script (w ∷ ws)) w.0 _ [] (fresh 0 (Declared.Script (w ∷ ws))) refl no_part

-- the conversation since the begin can be ended, since a batch has some cells
on_from : (batch : Writes) (s : ℕ) (rest : List Received) (q : PlanOf) → batch ≢ [] → conversations.Converses (fresh s (Declared.Script batch)) rest q
    → BeginsPlan (record { 0 = s }) (Declared.Script batch) rest
on_from [] s rest q some t = absurd (some refl)
on_from (w ∷ ws) s rest q some t = plans_converse s (Declared.Script (w ∷ ws)) w.0 _ rest q refl t

-- and once its plan is over, it is a whole conversation
at_end : (batch : Writes) (s : ℕ) (rest : List Received) (q : PlanOf) (o : Outcome) → batch ≢ [] → conversations.Converses (fresh s (Declared.Script batch)) rest q → plans.outcome_of q ≡ Some o
    → IsWhole (record { 0 = s }) (Declared.Script batch) (declared_cells (Declared.Script batch)) rest o
at_end [] s rest q o some t e = absurd (some refl)
at_end (w ∷ ws) s rest q o some t e = plans_end s (Declared.Script (w ∷ ws)) w.0 _ rest q o refl t e

-- before its begin any whole change may follow, and later one that ends as its plan may
pub changes_converse : ChangesConverse
changes_converse batch [] q some t =
    let w = whole batch some in
    (told (Step.Begin Work.Script) (Answer.At (record { 0 = 0 })) ∷ w.0, (record { 0 = 0 }, w.1.0, record { rest = w.0; said_is = refl; whole = w.1.1 }))
changes_converse batch (r ∷ rest) q some t =
    let b = answered_has_begun batch r rest q t in
    let w = on_from batch b.s rest b.plan some b.said in
    (w.0, (record { 0 = b.s }, w.1.0, record { rest = rest ++ w.0; said_is = ap (λ (z : Received). z ∷ rest ++ w.0) b.first; whole = w.1.1 }))

none_is : (batch : Writes) (z : ChangeOf) (p : PlanOf) → z ≡ new_change batch → z.plan ≡ Some p → ⊥
none_is batch z p is h = let k : z.plan ≡ None = ap (λ (j : ChangeOf). j.plan) is in cc

pub changes_end : ChangesEnd
changes_end batch [] q p o some t e done = absurd (none_is batch q p (conversation_unfolds next_of answered (new_change batch) q [] t) e)
changes_end batch (r ∷ rest) q p o some t e done =
    let b = answered_has_begun batch r rest q t in
    let same : b.plan ≡ p = same_plan b.plan p (ap (λ (j : ChangeOf). j.plan) (sym b.q_is) ∙ e) in
    let start : p.start ≡ b.s = ap (λ (z : PlanOf). z.start) (sym same) ∙ (keeps_start_and_what (fresh b.s (Declared.Script batch)) b.plan rest b.said).0 in
    grind (arith, whole, at_end)
