-- The next step of a change is refused only where no timestamp is left, where a journal of the only seat, which is
-- legal but for steps of marks, ends with what it has asked.
use Rattle.std.proofs.Common.{arith, inl, ◌≡◌, ℕ, ◌<◌, true, cond, List, [], ◌∷◌, ◌++◌, Some, None, refl, sym, ap, subst, ◌∙◌}
use Rattle.std.proofs.lemmas.Bool.{eq-eqb, or_left, or_right}
use Rattle.std.proofs.lemmas.List.Elements.{filter-append}
use Rattle.std.specs.FinMap as finite
use Rattle.std.specs.List.{list_any}
use Rattle.pb_generations.specs.Words.{Writes, Ts, Reason, ObserverOf, IsOwn, StateOf, TransactionOf, new_transaction, step_reason, Answer, Declared, Step, Work, Has, TransactionsAreTold, BeginsOnce, TellsTransactions, entries_naming, is_begin, names_start, transaction_by, Entry, Received, IsTimely, IsWorkInRange, PlansAreAllowed, ChangeOf, Converses, new_change, told, PlanOf, PlanPlace, entries_by}
use Rattle.pb_base.proofs.Logic.{same_some}
use Rattle.pb_txn.specs.Changes as changes
use Rattle.pb_txn.specs.Conversations as conversations
use Rattle.pb_txn.specs.Places as places
use Rattle.pb_txn.specs.Plans.{fresh}
use Rattle.pb_txn.specs.Plans as plans
use Rattle.pb_txn.proofs.ChangeConversation.{answered_has_begun}
use Rattle.pb_txn.proofs.PlanTransactions.{keeps_start_and_what}
use Rattle.pb_notify.proofs.OwnSteps.{declares_in_time, goes_in_time, no_transaction}
use Rattle.pb_notify.proofs.PlanEntries.{has_said}
use Rattle.pb_notify.proofs.PlanSteps.{declaring_said_nothing, plan_step, plan_keeps}
use Rattle.pb_notify.proofs.RecordedReads.{after, after_is}
use Rattle.pb_generations.specs.LateSteps.{NamesLate}
use Rattle.pb_generations.specs.SameButMarks.{IsLegalButMarks}
use Rattle.pb_generations.proofs.HistoryButMarks.{same_naming, same_transactions}
use Rattle.pb_generations.proofs.KnownJobs.{first_step}
use Rattle.pb_generations.proofs.LateNames.{late_in_plan}
use Rattle.pb_generations.proofs.SeatEntries.{by_append}

-- ---- the journal of a seat's conversation

-- a begin stands in the list
any_here : (xs : List Entry) (b : Entry) (ys : List Entry) → is_begin b.step ≡ true → list_any (λ (d : Entry). is_begin d.step) (xs ++ b ∷ ys) ≡ true
any_here [] b ys e = or_left (is_begin b.step) _ e
any_here (x ∷ xs) b ys e = or_right (is_begin x.step) _ (any_here xs b ys e)

-- before a start's begin nothing names it
none_before : (xs : List Entry) (b : Entry) (ys : List Entry) → is_begin b.step ≡ true → BeginsOnce (xs ++ b ∷ ys) → xs ≡ []
none_before [] b ys e once = refl
none_before (x ∷ xs) b ys e once = let has = any_here xs b ys e in let hasnt = once.1 in absurd cc

begin_first : (s : Ts) (rest : List Received) → entries_naming s.0 (entries_by 0 (told (Step.Begin Work.Script) (Answer.At s) ∷ rest)) ≡ record { seat = 0; step = Step.Begin Work.Script; answer = Answer.At s } ∷ entries_naming s.0 (entries_by 0 rest)
begin_first s rest = ap (λ b. cond b (record { seat = 0; step = Step.Begin Work.Script; answer = Answer.At s } ∷ entries_naming s.0 (entries_by 0 rest)) (entries_naming s.0 (entries_by 0 rest))) (eq-eqb s.0 s.0 refl)

-- the entries that name a start are those of the change that it began
naming_is : (state : StateOf) (s : Ts) (before rest : List Received) → TellsTransactions (entries_by 0 (before ++ told (Step.Begin Work.Script) (Answer.At s) ∷ rest)) state
    → entries_naming s.0 (entries_by 0 (before ++ told (Step.Begin Work.Script) (Answer.At s) ∷ rest)) ≡ entries_naming s.0 (entries_by 0 (told (Step.Begin Work.Script) (Answer.At s) ∷ rest))
naming_is state s before rest tells =
    let said = told (Step.Begin Work.Script) (Answer.At s) ∷ rest in
    let a = entries_naming s.0 (entries_by 0 before) in
    let b : Entry = record { seat = 0; step = Step.Begin Work.Script; answer = Answer.At s } in
    let parts : entries_naming s.0 (entries_by 0 (before ++ said)) ≡ a ++ b ∷ entries_naming s.0 (entries_by 0 rest) =
    ap (entries_naming s.0) (by_append 0 before said) ∙ filter-append (λ (e : Entry). names_start s.0 e.step e.answer) (entries_by 0 before) (entries_by 0 said) ∙ ap (λ l. a ++ l) (begin_first s rest) in
    let first = none_before a b (entries_naming s.0 (entries_by 0 rest)) refl (subst BeginsOnce parts (tells.begins s.0)) in
    parts ∙ ap (λ l. l ++ b ∷ entries_naming s.0 (entries_by 0 rest)) first ∙ sym (begin_first s rest)

-- ---- the step that is refused

module _ (allowed : PlansAreAllowed) (told_by : TransactionsAreTold) (clock : ℕ) (state : StateOf) (step : Step) (why : Reason) (refused : step_reason state 0 step ≡ Some why) where
  begin_in_time : 0 < state.seats → Step.Begin Work.Script ≡ step → why ≡ Reason.OutOfTimestamps
  begin_in_time seated is = begin_alone (subst (λ z. step_reason state 0 z ≡ Some why) (sym is) refused) where
    begin_alone : step_reason state 0 (Step.Begin Work.Script) ≡ Some why → why ≡ Reason.OutOfTimestamps
    begin_alone e = let no = no_transaction state 0 why seated in grind (arith, e, no)

  module _ (observers : List ObserverOf) (batch : Writes) (before rest : List Received) (s : ℕ) (p : PlanOf) (said_is : conversations.Converses (fresh s (Declared.Script batch)) rest p)
      (legal : IsLegalButMarks observers 1 clock (entries_by 0 (before ++ told (Step.Begin Work.Script) (Answer.At (record { 0 = s })) ∷ rest)) state) (seated : 0 < state.seats) (next : plans.next_of p ≡ Some step) where
    abbrev start : Ts
    start = record { 0 = s }

    abbrev what : Declared
    what = Declared.Script batch

    abbrev journal : List Entry
    journal = entries_by 0 (before ++ told (Step.Begin Work.Script) (Answer.At start) ∷ rest)

    abbrev u : TransactionOf
    u = new_transaction 0 Work.Script

    tells : TellsTransactions journal state
    tells = same_transactions legal.past journal state legal.same (told_by observers 1 clock legal.past state legal.legal)

    naming : entries_naming s journal ≡ entries_naming s (entries_by 0 (told (Step.Begin Work.Script) (Answer.At start) ∷ rest))
    naming = naming_is state start before rest tells

    -- the table has the transaction that the conversation makes
    got_is : finite.get state.transactions s ≡ after state.observers 0 start rest (Some u)
    got_is =
        tells.each s ∙ ap (transaction_by state.observers) naming ∙ after_is state.observers 0 start (told (Step.Begin Work.Script) (Answer.At start) ∷ rest) None
        ∙ ap (λ b. after state.observers 0 start rest (cond b (Some u) None)) (eq-eqb s s refl)

    kept : (v : TransactionOf) × (after state.observers 0 start rest (Some u) ≡ Some v) × (v.seat ≡ 0) × (v.work ≡ Work.Script)
    kept = let k = plan_keeps state.observers 0 start (fresh s what) p rest u said_is in (k.0, k.1, k.2.seat, k.2.work)

    own : IsOwn state 0 s kept.0
    own = record { there = got_is ∙ kept.1; mine = kept.2 }

    in_range : (t : TransactionOf) → finite.get state.transactions s ≡ Some t → IsWorkInRange observers t.work
    in_range t h = let same = sym h ∙ own.there in let work = kept.3 in grind (arith, same, work)

    timely : IsTimely why
    timely = allowed observers 1 clock legal.past state legal.legal 0 s what rest p step why in_range said_is (has_said legal.past 0 start (told (Step.Begin Work.Script) (Answer.At start) ∷ []) rest refl (same_naming legal.past journal legal.same s ∙ naming)) next refused

    -- a script that has said nothing declares its batch
    at_declaration : p.place ≡ PlanPlace.Declaring → Some (Step.Declare start what) ≡ Some step → ⊥
    at_declaration is e =
        let nothing = declaring_said_nothing (fresh s what) p rest is said_is in
        let first : IsOwn state 0 s u = record { there = got_is ∙ ap (λ l. after state.observers 0 start l (Some u)) nothing; mine = refl } in
        declares_in_time state 0 why seated s u first start what refl refl refl (subst (λ z. step_reason state 0 z ≡ Some why) (sym (same_some (Step.Declare start what) step e)) refused)

    by_place : (at : PlanPlace) → p.place ≡ at → places.step_at s what at ≡ Some step → why ≡ Reason.OutOfTimestamps
    by_place PlanPlace.Declaring is here = absurd (at_declaration is here)
    by_place at is here = goes_in_time state 0 why seated s kept.0 own at step (λ e. at_declaration (is ∙ e) (subst (λ z. places.step_at s what z ≡ Some step) e here)) (plan_step s what at step here) timely refused

    plan_in_time : why ≡ Reason.OutOfTimestamps
    plan_in_time =
        let same = keeps_start_and_what (fresh s what) p rest said_is in
        by_place p.place refl ((λ i. places.step_at (sym same.0 i) (sym same.1 i) p.place) ∙ next)

  -- a change's next step, after this part of its conversation
  pub change_in_time : (observers : List ObserverOf) (batch : Writes) (before said : List Received) (job : ChangeOf) → IsLegalButMarks observers 1 clock (entries_by 0 (before ++ said)) state → 0 < state.seats
      → Converses (new_change batch) said job → changes.next_of job ≡ Some step → why ≡ Reason.OutOfTimestamps
  change_in_time observers batch before [] job legal seated talk next = begin_in_time seated (first_step batch job step talk next)
  change_in_time observers batch before (r ∷ rest) job legal seated talk next =
      let b = answered_has_begun batch r rest job talk in
      plan_in_time observers batch before rest b.s b.plan b.said (subst (λ (z : Received). IsLegalButMarks observers 1 clock (entries_by 0 (before ++ z ∷ rest)) state) b.first legal) seated (ap changes.next_of (sym b.q_is) ∙ next)

-- where its begin was answered with a later start, its next step names that, or none
pub late_in_change : (batch : Writes) (said : List Received) (job : ChangeOf) (c : ℕ) (step : Step) → ((s : Ts) → Has said (told (Step.Begin Work.Script) (Answer.At s)) → c < s.0)
    → Converses (new_change batch) said job → changes.next_of job ≡ Some step → NamesLate c step
late_in_change batch [] job c step late talk next = subst (NamesLate c) (first_step batch job step talk next) tt
late_in_change batch (r ∷ rest) job c step late talk next =
    let b = answered_has_begun batch r rest job talk in
    late_in_plan c b.s (Declared.Script batch) b.plan rest step b.said (ap changes.next_of (sym b.q_is) ∙ next) (late (record { 0 = b.s }) (inl b.first))
