-- No step of a job comes at a wrong time, or declares what isn't its run.
use Rattle.std.proofs.Common.{◌≡◌, ℕ, ◌<◌, ◌≤◌, ◌^◌, inl, inr, Bool, cond, List, [], ◌∷◌, ◌++◌, Option, Some, None, slice_get, refl, sym, ap, subst, ◌∙◌, true, arith, filter}
use Rattle.std.specs.FinMap as finite
use Rattle.pb_notify.specs.Words.{Reason, Cell, Row, Ts, tells_old, record_by, RecordedRead, Work, Declared, Step, Answer, AreReplies, is_its, read_up_to, Seen, ObserverOf, column_or_zero, observed_column, StateOf, TransactionOf, IsOwn, step_reason, Entry, Received, IsLegal, Has, IsEntry, TellsAcknowledged, TransactionsAreTold, JournalsAreSound, AcknowledgedIsEarlier, names_start, entries_naming, transaction_by, TellsTransactions, PlanPlace, PlanOf, told, IsWorkInRange, IsTimely, PlansAreAllowed, PlansConverse, PlansEnd}
use Rattle.pb_txn.specs.declared.place.PlanPlace as order
use Rattle.pb_txn.specs.Places as steps
use Rattle.pb_txn.specs.Plans as plans
use Rattle.pb_notify.specs.declared.look.Look.{Look}
use Rattle.pb_notify.specs.declared.place.RunPlace.{RunPlace}
use Rattle.pb_notify.specs.Forms.{IsAcknowledged}
use Rattle.pb_notify.specs.Looks.{look_step}
use Rattle.pb_notify.specs.Places.{step_at}
use Rattle.pb_notify.specs.Runs.{Watch, watch_of}
use Rattle.pb_notify.specs.Allowed.{entries_by, HasRun, JobsAreAllowed}
use Rattle.pb_notify.proofs.RunConversation as conversation
use Rattle.pb_notify.proofs.RecordedReads.{after, after_is, after_append, has_append, with_reads, IsRecorded, HasRead, in_look, cell_begins, observed_is_recorded, acknowledged_is_recorded, has_read, is_newer}
use Rattle.pb_notify.proofs.ItsRun.{its_run}
use Rattle.pb_notify.proofs.PlanEntries.{has_said}
use Rattle.pb_notify.proofs.PlanSteps.{declaring_said_nothing, plan_step, plan_keeps}
use Rattle.pb_notify.proofs.OwnSteps.{begins_in_time, looks_in_time, declares_in_time, goes_in_time}
use Rattle.pb_base.proofs.Logic.{one_value as same_transaction, same_some as same_step, none_some, same_number as itself}
use Rattle.pb_txn.proofs.PlanTransactions.{keeps_start_and_what}

has_last : (xs : List Received) (x : Received) → Has (xs ++ x ∷ []) x
has_last [] x = inl refl
has_last (y ∷ ys) x = inr (has_last ys x)

if_has : (b : Bool) (e d : Entry) (es : List Entry) → Has (cond b (e ∷ es) es) d → Has (e ∷ es) d
if_has b e d es h = grind arith

more_has : (e d : Entry) (xs ys : List Entry) → (Has xs d → Has ys d) → Has (e ∷ xs) d → Has (e ∷ ys) d
more_has e d xs ys f w = grind arith

-- what is kept of a list stands in it
has_unfiltered : (p : Entry → Bool) (es : List Entry) (d : Entry) → Has (filter p es) d → Has es d
has_unfiltered p [] d h = absurd h
has_unfiltered p (e ∷ es) d h = more_has e d (filter p es) es (has_unfiltered p es d) (if_has (p e) e d (filter p es) h)

keeps_has : (b : Bool) (e d : Entry) (es : List Entry) → Has es d → Has (cond b (e ∷ es) es) d
keeps_has b e d es h = grind arith

-- what is in the conversation and names the start is one of the entries that do
has_filtered : (s : Ts) (seat : ℕ) (said : List Received) (r : Received) → Has said r → names_start s.0 r.step r.answer ≡ true
    → Has (entries_naming s.0 (entries_by seat said)) (record { seat = seat; step = r.step; answer = r.answer })
has_filtered s seat [] r h names = absurd h
has_filtered s seat (x ∷ xs) r (inl is) names = grind arith
has_filtered s seat (x ∷ xs) r (inr h) names = keeps_has (names_start s.0 x.step x.answer) _ _ _ (has_filtered s seat xs r h names)

module _ (observers : List ObserverOf) (seats clock : ℕ) (journal : List Entry) (state : StateOf) (legal : IsLegal observers seats clock journal state) (allowed : PlansAreAllowed)
    (tells : TellsTransactions journal state) (earlier : TellsAcknowledged journal) (seat o : ℕ) (row : Row) (observer : ObserverOf) (first_there : slice_get observers o ≡ Some observer) (there : slice_get state.observers o ≡ Some observer)
    (row_fits : row.0 < 2 ^ 64) (column_fits : observer.column < 2 ^ 64) (seated : seat < state.seats) (said : List Received) (has : HasRun journal seat o row said) where
  abbrev watch : Watch
  watch = watch_of o observer row

  column_is : observed_column state.observers o ≡ observer.column
  column_is = ap column_or_zero there

  -- the table has the transaction that the conversation makes
  got : (s : Ts) → Has said (told (Step.Begin (Work.Run o row)) (Answer.At s)) → finite.get state.transactions s.0 ≡ after state.observers seat s said None
  got s begun = tells.each s.0 ∙ ap (transaction_by state.observers) (has s begun) ∙ after_is state.observers seat s said None

  own_read : (s : Ts) (reads : List RecordedRead) → IsRecorded state.observers seat s watch said reads → IsOwn state seat s.0 (with_reads state.observers seat s watch reads)
  own_read s reads i = record { there = got s i.begun ∙ i.there; mine = refl }

  abbrev second : Bool
  second = tells_old observer.program

  -- what is in the conversation is in the journal
  had : (s : Ts) (r : Received) → Has said (told (Step.Begin (Work.Run o row)) (Answer.At s)) → Has said r → names_start s.0 r.step r.answer ≡ true → IsEntry journal seat r.step r.answer
  had s r begun h names =
      has_unfiltered (λ (e : Entry). names_start s.0 e.step e.answer) journal _
      (subst (λ l. Has l (record { seat = seat; step = r.step; answer = r.answer })) (sym (has s begun)) (has_filtered s seat said r h names))

  -- the acknowledged timestamp is at most the start
  in_time : (s : Ts) (seen : Seen) (n : ℕ) (base rest : List Received) (reads : List RecordedRead) → IsRecorded state.observers seat s watch base reads → said ≡ base ++ rest
      → IsAcknowledged watch s seen n base → seen.acknowledged.0 ≤ s.0
  in_time s seen n base rest reads recorded is i =
      let r = told (Step.Read s (Cell.Ack o row observer.column)) i.look.answer in
      let begun = subst (λ l. Has l (told (Step.Begin (Work.Run o row)) (Answer.At s))) (sym is) (has_append base rest _ recorded.begun) in
      let there = subst (λ l. Has l r) (sym is) (has_append base rest r (subst (λ l. Has l r) (sym i.look.said_is) (has_last i.look.before r))) in
      let low = earlier seat s o row observer.column i.look.answer (had s r begun there (itself s.0)) in
      subst (λ (t : Ts). t.0 ≤ s.0) (sym i.acknowledged) low

  module _ (step : Step) (why : Reason) (refused : step_reason state seat step ≡ Some why) where
    at_look : (s : Ts) (x : Cell) (at : Option Ts) (look : Look) (reads : List RecordedRead) → IsRecorded state.observers seat s watch said reads → read_up_to s.0 at ≤ s.0 → Some (look_step s x at look) ≡ Some step → why ≡ Reason.OutOfTimestamps
    at_look s x at look reads i in_time next = grind (arith, looks_in_time, with_reads, own_read, in_time, state.observers)

    module _ (n r : ℕ) (p : PlanOf) (i : conversation.IsPlanned watch n r p said) where
      abbrev what : Declared
      what = Declared.Run o i.run

      read : HasRead state.observers seat i.s watch i.seen i.talk i.base
      read = has_read state.observers seat i.s watch i.seen i.talk n i.base i.asked

      abbrev u : TransactionOf
      u = with_reads state.observers seat i.s watch read.reads

      begun : Has said (told (Step.Begin (Work.Run o row)) (Answer.At i.s))
      begun = subst (λ l. Has l (told (Step.Begin (Work.Run o row)) (Answer.At i.s))) (sym i.said_is) (has_append i.base i.plan _ read.recorded.begun)

      got_is : finite.get state.transactions i.s.0 ≡ after state.observers seat i.s i.plan (Some u)
      got_is = grind (arith, got, begun, after, after_append, i.s, state.observers, i.said_is, i.base, i.plan)

      -- it may declare what its plan declares
      its : is_its state.observers (Work.Run o row) i.s.0 read.reads what ≡ true
      its =
          its_run state.observers o row i.s.0 read.reads i.run (record {
            observer = observer;
            observer_is = there;
            seen = i.seen;
            asked = read.asked;
            was = grind (arith, observed_is_recorded, column_is, acknowledged_is_recorded, i.seen.acknowledged, i.seen.old);
            newer = is_newer watch i.s i.seen i.talk n i.base i.asked;
            program = i.run_on.program;
            bytes = i.run_on.bytes ∙ ap (λ c. record_by second (Cell.Data row c) i.seen.version i.seen.acknowledged.0 i.seen.old) (sym column_is);
            start = i.run_on.start;
            replied = subst (AreReplies read.asked) (sym i.run_on.talk_is) read.replied;
          })

      at_declaration : p.place ≡ PlanPlace.Declaring → Some (Step.Declare i.s what) ≡ Some step → ⊥
      at_declaration is next =
          let nothing = declaring_said_nothing (plans.fresh i.s.0 what) p i.plan is i.converses_are in
          let own : IsOwn state seat i.s.0 u = record { there = got_is ∙ ap (λ l. after state.observers seat i.s l (Some u)) nothing; mine = refl } in
          declares_in_time state seat why seated i.s.0 u own i.s what refl refl its (subst (λ z. step_reason state seat z ≡ Some why) (sym (same_step (Step.Declare i.s what) step next)) refused)

      in_range : (t : TransactionOf) → t.work ≡ Work.Run o row → IsWorkInRange observers t.work
      in_range t is = subst (IsWorkInRange observers) (sym is) (row_fits, subst (λ c. c < 2 ^ 64) (sym (ap column_or_zero first_there)) column_fits)

      timely : plans.next_of p ≡ Some step → IsTimely why
      timely next =
          let kept = plan_keeps state.observers seat i.s (plans.fresh i.s.0 what) p i.plan u i.converses_are in
          let said_by = subst (λ l. entries_naming i.s.0 journal ≡ entries_naming i.s.0 (entries_by seat l)) i.said_is (has i.s begun) in
          allowed observers seats clock journal state legal seat i.s.0 what i.plan p step why
          (λ t h. in_range t (ap (λ (z : TransactionOf). z.work) (same_transaction _ t kept.0 h (got_is ∙ kept.1)) ∙ kept.2.work)) i.converses_are
          (has_said journal seat i.s i.base i.plan read.recorded.bare said_by) next refused

      later_on : (at : order.PlanPlace) → (at ≡ PlanPlace.Declaring → ⊥) → steps.step_at i.s.0 what at ≡ Some step → plans.next_of p ≡ Some step → why ≡ Reason.OutOfTimestamps
      later_on at later here next =
          let kept = plan_keeps state.observers seat i.s (plans.fresh i.s.0 what) p i.plan u i.converses_are in
          goes_in_time state seat why seated i.s.0 kept.0 (record { there = got_is ∙ kept.1; mine = kept.2.seat }) at step later (plan_step i.s.0 what at step here) (timely next) refused

      by_place : (at : order.PlanPlace) → p.place ≡ at → steps.step_at i.s.0 what at ≡ Some step → plans.next_of p ≡ Some step → why ≡ Reason.OutOfTimestamps
      by_place at is here next = grind (arith, at_declaration, later_on)

      at_plan : plans.next_of p ≡ Some step → why ≡ Reason.OutOfTimestamps
      at_plan next = grind (arith, keeps_start_and_what, by_place, i.plan, i.converses_are, p.place)

    at_place : (n : ℕ) (place : RunPlace) → conversation.SoFar watch n place said → step_at o row observer.column place ≡ Some step → why ≡ Reason.OutOfTimestamps
    at_place n RunPlace.Beginning so next =
        begins_in_time state seat why seated o row observer there (subst (λ z. step_reason state seat z ≡ Some why) (sym (same_step (Step.Begin (Work.Run o row)) step next)) refused)
    at_place n (RunPlace.Observing s look) so next = at_look s _ None look [] (cell_begins state.observers seat s watch look n said so) (omega arith) next
    at_place n (RunPlace.Acknowledging s found look) so next =
        at_look s _ None look _ (in_look state.observers seat s watch (Cell.Ack o row observer.column) None so.0 so.1 look n said _ (observed_is_recorded state.observers seat s watch found so.0 so.1 so.2) so.3) (omega arith) next
    at_place n (RunPlace.Recalling s seen look) so next =
        let recorded = acknowledged_is_recorded state.observers seat s watch seen so.0 so.1 so.2 in
        let from = conversation.look_goes_on s (Cell.Data row observer.column) (Some seen.acknowledged) so.0 so.1 look n said so.5 in
        at_look s _ (Some seen.acknowledged) look _ (in_look state.observers seat s watch (Cell.Data row observer.column) (Some seen.acknowledged) so.0 so.1 look n said _ recorded so.5)
        (in_time s seen so.0 so.1 from.0 _ recorded from.1 so.2) next
    at_place n (RunPlace.Starting s seen) so next = absurd (none_some step next)
    at_place n (RunPlace.Computing s v) so next = absurd (none_some step next)
    at_place n (RunPlace.Asking s v q look) so next =
        let r = has_read state.observers seat s watch so.0 v.talk so.1 so.2 so.4 in
        at_look s _ None look r.reads (in_look state.observers seat s watch (Cell.Data q.row q.column) None so.1 so.2 look n said r.reads r.recorded so.5) (omega arith) next
    at_place n (RunPlace.Planning r p) so next = at_plan n r p so next
    at_place n (RunPlace.Sweeping end) so next = grind arith
    at_place n (RunPlace.Over end) so next = absurd (none_some step next)

-- by where the job stands: looks, its declaration and the later steps of its plan each come at their time
pub jobs_allowed : PlansConverse → PlansEnd → PlansAreAllowed → TransactionsAreTold → JournalsAreSound → AcknowledgedIsEarlier → JobsAreAllowed
jobs_allowed pt pe allowed told_by sound earlier observers seats clock journal state legal seat o observer row said k step why seated there row_fits column_fits reaches has next refused =
    let h = conversation.reached_holds (watch_of o observer row) pt pe said k reaches in
    let os_is = (sound observers seats clock journal state legal).observers_stay in
    let here : step_at o row observer.column k.place ≡ Some step = ap (λ (j : Watch). step_at j.observer j.row j.column k.place) (sym h.watch) ∙ next in
    at_place observers seats clock journal state legal allowed (told_by observers seats clock journal state legal) (earlier observers seats clock journal state legal) seat o row observer there (ap (λ os. slice_get os o) os_is ∙ there)
    row_fits column_fits seated said has step why refused k.locked k.place h.so here
