use Rattle.std.proofs.Common.{List, ◌<◌, ◌≡◌, ◌≢◌, [], ◌∷◌, refl, sym, ◌∙◌, ap, subst, Option, Some, None}
use Rattle.std.proofs.lemmas.Option.{none-some}
use Rattle.std.proofs.lemmas.Result.{err_from_is_err_and}
use Rattle.pb_keeper.specs.Words.{BeginsChange, Writes, StateOf, Step, Work, Declared, Received, Outcome, PlansStop, PlanOf, no_part, new_change, ChangeOf, Converses, outcome_in, ChangesConverse, ChangesEnd}
use Rattle.pb_txn.specs.Changes.{answered, next_of}
use Rattle.pb_txn.specs.Plans as plans
use Rattle.pb_conversations.proofs.Asking.{conversation_unfolds}
use Rattle.pb_txn.proofs.ChangeConversation.{answered_has_begun}
use Rattle.pb_keeper.specs.Leads.{SaidLeads, IsEndedChange}
use Rattle.pb_keeper.proofs.Reaching.{ChangedSoFar, goes_on}
use Rattle.pb_keeper.proofs.InTime.{change_stops}
use Rattle.pb_keeper.proofs.Turns.{change_goes, change_left}
use Rattle.pb_keeper.proofs.change.make_steps.Goals as goal

nothing_said : (batch : Writes) (s : StateOf) → ChangedSoFar batch (new_change batch) s s
nothing_said batch s = record { said = []; form = no_part; leads = refl }

pub loop-step-init : goal.loop-step-init
loop-step-init g c = subst (λ (j : ChangeOf). ChangedSoFar c.args.job.now.batch j c.args.state.now c.args.state.now) (sym c.requires.fresh) (nothing_said c.args.job.now.batch c.args.state.now)

begins : (batch : Writes) (job : ChangeOf) (old new : StateOf) → batch ≢ [] → ChangesConverse → ChangedSoFar batch job old new → SaidLeads (BeginsChange batch) old new
begins batch job old new some law so_far = record { said = so_far.said; form = law batch so_far.said job some so_far.form; leads = so_far.leads }

-- a change that has an outcome has a plan that has it
planned : (plan : Option PlanOf) (o : Outcome) → outcome_in plan ≡ Some o → (p : PlanOf) × (plan ≡ Some p) × (plans.outcome_of p ≡ Some o)
planned None o is = absurd (none-some o is)
planned (Some p) o is = (p, refl, is)

ended : (batch : Writes) (job : ChangeOf) (old new : StateOf) (o : Outcome) → batch ≢ [] → ChangesEnd → outcome_in job.plan ≡ Some o → ChangedSoFar batch job old new → SaidLeads (IsEndedChange batch o) old new
ended batch job old new o some law is so_far =
    let p = planned job.plan o is in
    record { said = so_far.said; form = (_, law batch so_far.said job p.0 o some so_far.form p.1 p.2); leads = so_far.leads }

pub loop-step-preserved : goal.loop-step-preserved
loop-step-preserved g c =
    subst (λ (j : ChangeOf). ChangedSoFar c.args.job.now.batch j c.args.state.now c.ask.new.state) (sym c.took.ensures)
    (goes_on c.args.job.now.batch c.loop-step.job c.args.state.now c.loop-step.state c.ask.new.state c.in-Some.step.now c.in_ok-answer.answer c.loop-step.invariant c.in-Some.ensures c.in_ok-answer.ensures.can c.in_ok-answer.ensures.taken)

pub returns-in_default-clause-ok : goal.returns-in_default-clause-ok
returns-in_default-clause-ok g c =
    ended c.args.job.now.batch c.loop-step.job c.args.state.now c.loop-step.state c.in-Some-outcome.outcome c.requires.some c.changes_converse.ensures.ends (sym c.outcome.ensures ∙ c.in-Some-outcome.is) c.loop-step.invariant

-- a change without a next step has an outcome
over_by : (batch : Writes) (said : List Received) (job : ChangeOf) → batch ≢ [] → PlansStop → Converses (new_change batch) said job → next_of job ≡ None → (o : Outcome) × (outcome_in job.plan ≡ Some o)
over_by [] said job some stop talk none = absurd (some refl)
over_by (w ∷ ws) [] job some stop talk none = absurd (none-some (Step.Begin Work.Script) (sym none ∙ ap next_of (conversation_unfolds next_of answered (new_change (w ∷ ws)) job [] talk)))
over_by (w ∷ ws) (r ∷ rest) job some stop talk none =
    let b = answered_has_begun (w ∷ ws) r rest job talk in
    let o = stop b.s (Declared.Script (w ∷ ws)) w.0 _ rest b.plan refl b.said (ap next_of (sym b.q_is) ∙ none) in
    (o.0, ap (λ (j : ChangeOf). outcome_in j.plan) b.q_is ∙ o.1)

pub unreachable-requires : goal.unreachable-requires
unreachable-requires g c =
    let over = over_by c.args.job.now.batch c.loop-step.invariant.said c.loop-step.job c.requires.some c.plans_converse.ensures.stops c.loop-step.invariant.form c.in_default.ensures in
    none-some over.0 (c.in_default-outcome.ensures ∙ over.1)

pub returns-in_err-answer-clause-stops : goal.returns-in_err-answer-clause-stops
returns-in_err-answer-clause-stops g c opened =
    let p = err_from_is_err_and c.from_residual.result c.from_residual.ensures.1 in
    rw (p.1, p.2) (change_stops c.jobs_are_in_time.ensures.changes c.args.job.now.batch c.loop-step.job c.args.state.now c.loop-step.state c.ask.new.state c.in-Some.step.now c.in_err-answer.field-0.0 opened c.loop-step.invariant c.in-Some.ensures c.in_err-answer.ensures.same c.in_err-answer.ensures.why)

pub loop-step-smaller : goal.loop-step-smaller
loop-step-smaller g c =
    subst (λ (j : ChangeOf). change_left j < change_left c.loop-step.job) (sym c.took.ensures) (change_goes c.loop-step.job c.in-Some.step.now c.in_ok-answer.answer c.in-Some.ensures c.in_ok-answer.ensures.can)
