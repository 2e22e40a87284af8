-- The next step of a job names no start but its own, which its begin was answered, so that it is above the clock as it was before.
use Rattle.std.proofs.Common.{◌≡◌, ℕ, ◌<◌, ◌≤◌, inl, inr, arith, List, [], ◌∷◌, Option, Some, None, sym, ap, subst, ◌∙◌}
use Rattle.pb_base.proofs.Logic.{none_some, same_some}
use Rattle.pb_generations.specs.Words.{Cell, Row, Ts, ObserverOf, StateOf, StepCase, Answer, Declared, Step, Work, Has, IsEntry, JournalLeads, Entry, Received, told, PlansConverse, PlansEnd, PlanPlace, Reaches, look_step, step_at, RunOf, Watch, fresh, next_of, watch_of, Look, RunPlace}
use Rattle.pb_txn.specs.Conversations.{Converses}
use Rattle.pb_txn.specs.Places as orders
use Rattle.pb_txn.specs.Plans as plans
use Rattle.pb_txn.proofs.PlanTransactions.{keeps_start_and_what}
use Rattle.pb_notify.proofs.RecordedReads.{has_append, in_look, cell_begins, observed_is_recorded, acknowledged_is_recorded, has_read}
use Rattle.pb_notify.proofs.RunConversation as conversation
use Rattle.pb_generations.specs.LateSteps.{NamesLate}

-- ---- a start is above the clock before its begin

clock_rises : (old : StateOf) (seat : ℕ) (new : StateOf) (step : Step) (answer : Answer) → StepCase old seat step answer new → old.clock ≤ new.clock
clock_rises old seat new step answer is = grind arith

pub begun_later : (old new : StateOf) (es : List Entry) (seat : ℕ) (work : Work) (s : Ts) → JournalLeads old es new → IsEntry es seat (Step.Begin work) (Answer.At s) → old.clock < s.0
begun_later old new [] seat work s leads is = absurd is
begun_later old new (e ∷ es) seat work s leads (inl is) =
    let begins = subst (λ (z : Entry). StepCase old z.seat z.step z.answer leads.0) is leads.1.taken in
    omega (arith, begins.fresh)
begun_later old new (e ∷ es) seat work s leads (inr there) =
    let later = begun_later leads.0 new es seat work s leads.2 there in
    omega (arith, later, clock_rises old e.seat leads.0 e.step e.answer leads.1.taken)

-- ---- the steps of a transaction that began later

module _ (c : ℕ) where
  -- a look at a cell
  late_look : (s : Ts) (x : Cell) (at : Option Ts) (look : Look) → c < s.0 → NamesLate c (look_step s x at look)
  late_look s x None Look.Reading late = late
  late_look s x (Some t) Look.Reading late = late
  late_look s x at (Look.Clearing primary) late = tt
  late_look s x at (Look.Settling primary) late = tt
  late_look s x at Look.ClearingAgain late = tt

  -- a step of its plan
  late_in_order : (s : ℕ) (what : Declared) (place : PlanPlace) (step : Step) → orders.step_at s what place ≡ Some step → c < s → NamesLate c step
  late_in_order s what place step is late = grind arith

  pub late_in_plan : (s : ℕ) (what : Declared) (p : plans.PlanOf) (said : List Received) (step : Step) → Converses (plans.fresh s what) said p → plans.next_of p ≡ Some step → c < s → NamesLate c step
  late_in_plan s what p said step talk next late =
      let same = keeps_start_and_what (plans.fresh s what) p said talk in
      late_in_order s what p.place step ((λ i. orders.step_at (sym same.0 i) (sym same.1 i) p.place) ∙ next) late

-- ---- a run

module _ (observers : List ObserverOf) (seat o : ℕ) (observer : ObserverOf) (row : Row) (said : List Received) (c : ℕ) (late : (s : Ts) → Has said (told (Step.Begin (Work.Run o row)) (Answer.At s)) → c < s.0) (step : Step) where
  abbrev watch : Watch
  watch = watch_of o observer row

  one : (a : Step) → NamesLate c a → Some a ≡ Some step → NamesLate c step
  one a is next = subst (NamesLate c) (same_some a step next) is

  -- a look at a cell, where the conversation has the begin
  looks_late : (s : Ts) (x : Cell) (at : Option Ts) (look : Look) → Has said (told (Step.Begin (Work.Run o row)) (Answer.At s)) → Some (look_step s x at look) ≡ Some step → NamesLate c step
  looks_late s x at look begun next = one _ (late_look c s x at look (late s begun)) next

  late_at : (n : ℕ) (place : RunPlace) → conversation.SoFar watch n place said → step_at o row observer.column place ≡ Some step → NamesLate c step
  late_at n RunPlace.Beginning so next = one (Step.Begin (Work.Run o row)) tt next
  late_at n (RunPlace.Observing s look) so next = looks_late s (Cell.Data row observer.column) None look (cell_begins observers seat s watch look n said so).begun next
  late_at n (RunPlace.Acknowledging s found look) so next =
      let read = observed_is_recorded observers seat s watch found so.0 so.1 so.2 in
      looks_late s (Cell.Ack o row observer.column) None look (in_look observers seat s watch (Cell.Ack o row observer.column) None so.0 so.1 look n said _ read so.3).begun next
  late_at n (RunPlace.Recalling s seen look) so next =
      let read = acknowledged_is_recorded observers seat s watch seen so.0 so.1 so.2 in
      looks_late s (Cell.Data row observer.column) (Some seen.acknowledged) look
      (in_look observers seat s watch (Cell.Data row observer.column) (Some seen.acknowledged) so.0 so.1 look n said _ read so.5).begun next
  late_at n (RunPlace.Starting s seen) so next = absurd (none_some step next)
  late_at n (RunPlace.Computing s v) so next = absurd (none_some step next)
  late_at n (RunPlace.Asking s v q look) so next =
      let read = has_read observers seat s watch so.0 v.talk so.1 so.2 so.4 in
      looks_late s (Cell.Data q.row q.column) None look (in_look observers seat s watch (Cell.Data q.row q.column) None so.1 so.2 look n said read.reads read.recorded so.5).begun next
  late_at n (RunPlace.Planning r p) so next =
      let read = has_read observers seat so.s watch so.seen so.talk n so.base so.asked in
      let begun = subst (λ l. Has l (told (Step.Begin (Work.Run o row)) (Answer.At so.s))) (sym so.said_is) (has_append so.base so.plan _ read.recorded.begun) in
      late_in_plan c so.s.0 (Declared.Run o so.run) p so.plan step so.converses_are next (late so.s begun)
  late_at n (RunPlace.Sweeping end) so next = one (Step.Sweep (Cell.Data row observer.column)) tt next
  late_at n (RunPlace.Over end) so next = absurd (none_some step next)

-- where its begin was answered with a later start, each step of a run names that, or none
pub late_in_run : PlansConverse → PlansEnd → (observers : List ObserverOf) (o : ℕ) (observer : ObserverOf) (row : Row) (said : List Received) (k : RunOf) (c : ℕ) (step : Step)
    → ((s : Ts) → Has said (told (Step.Begin (Work.Run o row)) (Answer.At s)) → c < s.0) → Reaches (fresh (watch_of o observer row)) said k → next_of k ≡ Some step → NamesLate c step
late_in_run pt pe observers o observer row said k c step late reaches next =
    let h = conversation.reached_holds (watch_of o observer row) pt pe said k reaches in
    let here : step_at o row observer.column k.place ≡ Some step = ap (λ (j : Watch). step_at j.observer j.row j.column k.place) (sym h.watch) ∙ next in
    late_at observers 0 o observer row said c late step k.locked k.place h.so here
