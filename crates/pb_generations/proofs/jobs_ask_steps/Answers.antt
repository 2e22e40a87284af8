use Rattle.std.proofs.Common.{◌≡◌, ℕ, ◌<◌, Bool, arith, List, ◌++◌, Some, None, slice_get, refl, sym, ap, subst, ◌∙◌, Option}
use Rattle.pb_base.proofs.Logic.{none_some, same_some}
use Rattle.pb_generations.specs.Words.{Cell, Row, Ts, ObserverOf, old_at, Seen, Step, Work, Has, IsEntry, Entry, Received, told, PlansConverse, PlansEnd, PlanPlace, IsAcknowledged, look_step, step_at, Watch, watch_of, Look, RunPlace}
use Rattle.pb_txn.specs.Plans as plans
use Rattle.pb_txn.specs.Places as orders
use Rattle.pb_txn.specs.Changes as changes
use Rattle.pb_notify.proofs.RunConversation as conversation
use Rattle.pb_history.proofs.Updates.{has_last, has_before}
use Rattle.pb_generations.specs.KeptTables.{IsStepOfJob, ReadsAcknowledged, RunsAskSteps, ChangesAskSteps}
use Rattle.pb_generations.proofs.jobs_ask_steps.Goals as goal

-- no plan reads at a timestamp
no_plan_reads : (p : plans.PlanOf) (s : Ts) (x : Cell) (t : Ts) → plans.next_of p ≡ Some (Step.ReadAt s x t) → ⊥
no_plan_reads p s x t next = by p.place next where
  by : (place : PlanPlace) → orders.step_at p.start p.what place ≡ Some (Step.ReadAt s x t) → ⊥
  by place next = grind arith

-- what is read once more at a timestamp is acknowledged there
old_some : (second : Bool) (a t : Ts) → old_at second a ≡ Some t → 0 < a.0
old_some second a t is = grind (arith, is)

module _ (observers : List ObserverOf) (journal : List Entry) where
  of_plan : (p : plans.PlanOf) (step : Step) → plans.next_of p ≡ Some step → IsStepOfJob observers journal step
  of_plan p (Step.ReadAt s x t) next = absurd (no_plan_reads p s x t next)
  of_plan p _ next = tt

module _ (observers : List ObserverOf) (journal : List Entry) (seat o : ℕ) (observer : ObserverOf) (row : Row) (said : List Received) (there : slice_get observers o ≡ Some observer) (had : (r : Received) → Has said r → IsEntry journal seat r.step r.answer) where
  abbrev watch : Watch
  watch = watch_of o observer row

  -- a look at the start
  plain_look : (s : Ts) (x : Cell) (look : Look) → IsStepOfJob observers journal (look_step s x None look)
  plain_look s x Look.Reading = tt
  plain_look s x (Look.Clearing primary) = tt
  plain_look s x (Look.Settling primary) = tt
  plain_look s x Look.ClearingAgain = tt

  -- a look at what was acknowledged
  acknowledged : (s : Ts) (seen : Seen) (n : ℕ) (base rest : List Received) → said ≡ base ++ rest → IsAcknowledged watch s seen n base → 0 < seen.acknowledged.0 → ReadsAcknowledged observers journal s.0 (Cell.Data row observer.column) seen.acknowledged.0
  acknowledged s seen n base rest is i some =
      let r = told (Step.Read s (Cell.Ack o row observer.column)) i.look.answer in
      record {
        o = o;
        row = row;
        observer = observer;
        observer_is = there;
        cell = refl;
        seat = seat;
        answer = i.look.answer;
        read = had r (subst (λ l. Has l r) (sym is) (has_before base rest r (subst (λ l. Has l r) (sym i.look.said_is) (has_last i.look.before r))));
        held = i.look.held;
        acknowledged = ap (λ (t : Ts). t.0) (sym i.acknowledged);
        some = some;
      }

  old_look : (s : Ts) (seen : Seen) (look : Look) → ReadsAcknowledged observers journal s.0 (Cell.Data row observer.column) seen.acknowledged.0 → IsStepOfJob observers journal (look_step s (Cell.Data row observer.column) (Some seen.acknowledged) look)
  old_look s seen Look.Reading reads = reads
  old_look s seen (Look.Clearing primary) reads = tt
  old_look s seen (Look.Settling primary) reads = tt
  old_look s seen Look.ClearingAgain reads = tt

  module _ (step : Step) where
    one : (a : Step) → IsStepOfJob observers journal a → Some a ≡ Some step → IsStepOfJob observers journal step
    one a is next = subst (IsStepOfJob observers journal) (same_some a step next) is

    at_place : (n : ℕ) (place : RunPlace) → conversation.SoFar watch n place said → step_at o row observer.column place ≡ Some step → IsStepOfJob observers journal step
    at_place n RunPlace.Beginning so next = one (Step.Begin (Work.Run o row)) tt next
    at_place n (RunPlace.Observing s look) so next = one _ (plain_look s (Cell.Data row observer.column) look) next
    at_place n (RunPlace.Acknowledging s found look) so next = one _ (plain_look s (Cell.Ack o row observer.column) look) next
    at_place n (RunPlace.Recalling s seen look) so next =
        let from = conversation.look_goes_on s (Cell.Data row observer.column) (Some seen.acknowledged) so.0 so.1 look n said so.5 in
        one _ (old_look s seen look (acknowledged s seen so.0 so.1 from.0 from.1 so.2 (old_some _ seen.acknowledged seen.acknowledged so.4))) next
    at_place n (RunPlace.Starting s seen) so next = absurd (none_some step next)
    at_place n (RunPlace.Computing s v) so next = absurd (none_some step next)
    at_place n (RunPlace.Asking s v q look) so next = one _ (plain_look s (Cell.Data q.row q.column) look) next
    at_place n (RunPlace.Planning r p) so next = of_plan observers journal p step next
    at_place n (RunPlace.Sweeping end) so next = one (Step.Sweep (Cell.Data row observer.column)) tt next
    at_place n (RunPlace.Over end) so next = absurd (none_some step next)

ask_steps : PlansConverse → PlansEnd → RunsAskSteps
ask_steps pt pe observers journal seat o observer row said k step there reaches had next =
    let h = conversation.reached_holds (watch_of o observer row) pt pe said k reaches in
    let here : step_at o row observer.column k.place ≡ Some step = ap (λ (j : Watch). step_at j.observer j.row j.column k.place) (sym h.watch) ∙ next in
    at_place observers journal seat o observer row said there had step k.locked k.place h.so here

ask_of_change : ChangesAskSteps
ask_of_change observers journal j step next = by j.plan next where
  by : (plan : Option plans.PlanOf) → changes.next_in plan ≡ Some step → IsStepOfJob observers journal step
  by None asked = subst (IsStepOfJob observers journal) (same_some (Step.Begin Work.Script) step asked) tt
  by (Some p) asked = of_plan observers journal p step asked

pub returns-clause-runs : goal.returns-clause-runs
returns-clause-runs c = ask_steps c.plans_converse.ensures.converses c.plans_converse.ensures.ends

pub returns-clause-changes : goal.returns-clause-changes
returns-clause-changes c = ask_of_change
