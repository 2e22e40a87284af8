use Rattle.std.proofs.Common.{◌≡◌, ℕ, ◌<◌, ◌≤◌, ◌^◌, Bool, true, false, not, cond, filter, arith, List, [], ◌∷◌, ◌++◌, length, Option, Some, slice_get, refl, sym, ap, subst, ◌∙◌}
use Rattle.std.proofs.lemmas.List.Elements.{filter-append}
use Rattle.std.proofs.lemmas.Option.{slice_get_within}
use Rattle.pb_generations.specs.Words.{Writes, Cell, Row, Ts, Reason, ObserverOf, StateOf, opening, step_reason, Answer, Step, Work, Has, JournalLeads, TransactionsAreTold, entries_of, entries_naming, Entry, Received, PlansAreAllowed, ChangeOf, Converses, new_change, told, PlansConverse, PlansEnd, HasRun, JobsAreAllowed, RunsAreKept, entries_by, Reaches, RunOf, fresh, next_of, watch_of}
use Rattle.pb_txn.specs.Changes as changes
use Rattle.pb_notify.proofs.OwnSteps.{no_transaction}
use Rattle.pb_generations.specs.LateSteps.{NamesLate}
use Rattle.pb_generations.specs.KeptTables.{IsKeptTable, StandsForAll, KeptTablesAreWhole, KeptAnswersAreKnown, RunsAskSteps, ChangesKeepTables}
use Rattle.pb_generations.specs.KnownSteps.{RunsNameKnown}
use Rattle.pb_generations.specs.LeftOut.{NamesKnown, SameRefusals}
use Rattle.pb_generations.specs.InTime.{RefusalsCarryOver}
use Rattle.pb_generations.specs.SameButMarks.{is_of_marks, without_marks, IsLegalButMarks}
use Rattle.pb_generations.proofs.HistoryButMarks.{has_passed, naming_others}
use Rattle.pb_generations.proofs.JournalsWithMore.{legal_with_more}
use Rattle.pb_generations.proofs.JoinedJournals.{journal_seats}
use Rattle.pb_generations.proofs.KeptJobs.{kept_run}
use Rattle.pb_generations.proofs.KnownJobs.{change_names_known}
use Rattle.pb_generations.proofs.LateNames.{begun_later, late_in_run}
use Rattle.pb_generations.proofs.LongerLists.{stay_in_front}
use Rattle.pb_generations.proofs.SeatEntries.{by_append, said_there}
use Rattle.pb_generations.proofs.StepsWithMore.{with_more}
use Rattle.pb_generations.proofs.TimelyChanges.{change_in_time, late_in_change}
use Rattle.pb_generations.proofs.jobs_are_in_time.Goals as goal

-- ---- the journal of a seat's conversation

entries_back : (said : List Received) → entries_of 0 (entries_by 0 said) ≡ said
entries_back [] = refl
entries_back (r ∷ rs) = ap (λ l. r ∷ l) (entries_back rs)

-- without its steps of marks
others : List Received → List Received
others said = filter (λ (r : Received). not (is_of_marks r.step)) said

entries_of_others : (said : List Received) → without_marks (entries_by 0 said) ≡ entries_by 0 (others said)
unfolding others
entries_of_others [] = refl
entries_of_others (r ∷ rs) = by (not (is_of_marks r.step)) (entries_of_others rs)
  where
    by : (b : Bool) → without_marks (entries_by 0 rs) ≡ entries_by 0 (others rs)
        → cond b (record { seat = 0; step = r.step; answer = r.answer } ∷ without_marks (entries_by 0 rs)) (without_marks (entries_by 0 rs)) ≡ entries_by 0 (cond b (r ∷ others rs) (others rs))
    by true rest = ap (λ l. record { seat = 0; step = r.step; answer = r.answer } ∷ l) rest
    by false rest = rest

-- a journal of the only seat, which is legal but for steps of marks, has the run with which its conversation ends: its other steps are
-- legal alone
has_run : RunsAreKept → (observers : List ObserverOf) (clock o : ℕ) (row : Row) (before said : List Received) (state : StateOf) (legal : IsLegalButMarks observers 1 clock (entries_by 0 (before ++ said)) state) → HasRun legal.past 0 o row said
unfolding others
has_run runs observers clock o row before said state legal s begun =
    let alone = legal_with_more observers observers (λ p observer there. there) 1 clock legal.past state legal.legal in
    let test : Received → Bool = λ r. not (is_of_marks r.step) in
    let parts : entries_of 0 (without_marks legal.past) ≡ others before ++ others said =
    ap (entries_of 0) (legal.same ∙ entries_of_others (before ++ said)) ∙ entries_back (others (before ++ said)) ∙ filter-append test before said in
    let has = runs observers 1 clock (without_marks legal.past) (with_more state observers alone.left) alone.legal 0 o row (others before) (others said) parts s (has_passed test _ said refl begun) in
    sym (naming_others s.0 legal.past) ∙ has ∙ ap (entries_naming s.0) (sym (entries_of_others said)) ∙ naming_others s.0 (entries_by 0 said)

module _ (wholes : KeptTablesAreWhole) (over : RefusalsCarryOver) (alike : SameRefusals) (observers gone : List ObserverOf) (clock c : ℕ) where
  -- ---- the whole table that one stands for

  module _ (journal : List Entry) (now : StateOf) (kept : IsKeptTable observers gone 1 clock c journal now) where
    abbrev stands : StandsForAll observers gone 1 clock c journal now
    stands = wholes observers gone 1 clock c journal now kept

    seated : 0 < stands.whole.seats
    seated = let same = journal_seats (opening (observers ++ gone) 1 clock) stands.legal.past stands.whole stands.legal.legal.run in omega (arith, same)

    -- without those that are gone, it has the same observers
    lean_observers : stands.lean.observers ≡ observers
    lean_observers = ap (λ (s : StateOf). s.observers) (sym stands.now_is) ∙ stands.observers_are

    -- it refuses the step, too
    refused_by_whole : (step : Step) (why : Reason) → NamesLate c step → NamesKnown (length observers) step → step_reason now 0 step ≡ Some why → step_reason stands.whole 0 step ≡ Some why
    refused_by_whole step why late known refused =
        sym (alike c gone stands.whole stands.lean 0 step stands.lacks (subst (λ (os : List ObserverOf). NamesKnown (length os) step) (sym lean_observers) known))
        ∙ sym (over c stands.lean now.entries now.transactions 0 step stands.mirrors late) ∙ ap (λ (s : StateOf). step_reason s 0 step) (sym stands.now_is) ∙ refused

    since : c ≤ now.clock
    since = let clock_is = ap (λ (s : StateOf). s.clock) stands.now_is in omega (arith, stands.mirrors.since, clock_is)

    mark_in_time : (after : Option Cell) (why : Reason) → step_reason now 0 (Step.NextMark after) ≡ Some why → ⊥
    mark_in_time after why refused = no_transaction stands.whole 0 why seated (refused_by_whole (Step.NextMark after) why tt tt refused)

  -- ---- where a conversation has led on

  module _ (before said : List Received) (old new : StateOf) (kept : IsKeptTable observers gone 1 clock c (entries_by 0 before) old) (leads : JournalLeads old (entries_by 0 said) new) where
    -- what it began came later
    late : (work : Work) (s : Ts) → Has said (told (Step.Begin work) (Answer.At s)) → c < s.0
    late work s has = let above = begun_later old new (entries_by 0 said) 0 work s leads (said_there 0 said (told (Step.Begin work) (Answer.At s)) has) in omega (arith, above, since (entries_by 0 before) old kept)

    on : IsKeptTable observers gone 1 clock c (entries_by 0 before ++ entries_by 0 said) new → IsKeptTable observers gone 1 clock c (entries_by 0 (before ++ said)) new
    on led = subst (λ (l : List Entry). IsKeptTable observers gone 1 clock c l new) (sym (by_append 0 before said)) led

    run_in_time : RunsAskSteps → RunsNameKnown → KeptAnswersAreKnown → JobsAreAllowed → RunsAreKept → PlansConverse → PlansEnd → (o : ℕ) (observer : ObserverOf) (row : Row) (job : RunOf) (step : Step) (why : Reason)
        → slice_get observers o ≡ Some observer → row.0 < 2 ^ 64 → observer.column < 2 ^ 64 → Reaches (fresh (watch_of o observer row)) said job → next_of job ≡ Some step → step_reason new 0 step ≡ Some why → why ≡ Reason.OutOfTimestamps
    run_in_time asks names answers allowed runs pt pe o observer row job step why there row_fits column_fits reaches next refused =
        let journal = entries_by 0 (before ++ said) in
        let run = kept_run answers observers gone 1 clock c (entries_by 0 before) old kept 0 asks names o observer row there said job new reaches leads in
        let led = on run.0 in
        let w = stands journal new led in
        let named = late_in_run pt pe observers o observer row said job c step (late (Work.Run o row)) reaches next in
        let known = names (length observers) o observer row said job step (slice_get_within observers o observer there) reaches run.1 next in
        let has = has_run runs (observers ++ gone) clock o row before said w.whole w.legal in
        allowed (observers ++ gone) 1 clock w.legal.past w.whole w.legal.legal 0 o observer row said job step why (seated journal new led) (stay_in_front observers gone o observer there) row_fits column_fits reaches has next
        (refused_by_whole journal new led step why named known refused)

    of_change : ChangesKeepTables → PlansAreAllowed → TransactionsAreTold → (batch : Writes) (job : ChangeOf) (step : Step) (why : Reason) → Converses (new_change batch) said job → changes.next_of job ≡ Some step
        → step_reason new 0 step ≡ Some why → why ≡ Reason.OutOfTimestamps
    of_change keep allowed told_by batch job step why talk next refused =
        let journal = entries_by 0 (before ++ said) in
        let led = on (keep observers gone 1 clock c (entries_by 0 before) old new kept 0 said (batch, job, talk) leads) in
        let w = stands journal new led in
        let named = late_in_change batch said job c step (late Work.Script) talk next in
        let known = change_names_known (length observers) 0 batch old new said job step talk leads next in
        change_in_time allowed told_by clock w.whole step why (refused_by_whole journal new led step why named known refused) (observers ++ gone) batch before said job w.legal (seated journal new led) talk next

pub returns-clause-runs : goal.returns-clause-runs
returns-clause-runs c observers gone clock g before said old new kept leads o observer row job step why there row_fits column_fits reaches next refused =
    run_in_time c.kept_tables_are_whole.ensures.whole c.refusals_carry_over.ensures c.others_may_be_left_out.ensures.refusals observers gone clock g before said old new kept leads
    c.jobs_ask_steps.ensures.runs c.jobs_name_known_cells.ensures.runs c.kept_tables_are_whole.ensures.answers c.jobs_are_allowed.ensures.allowed c.jobs_are_allowed.ensures.kept
    c.plans_converse.ensures.converses c.plans_converse.ensures.ends o observer row job step why there row_fits column_fits reaches next refused

pub returns-clause-changes : goal.returns-clause-changes
returns-clause-changes c observers gone clock g before said old new kept leads batch job step why talk next refused =
    of_change c.kept_tables_are_whole.ensures.whole c.refusals_carry_over.ensures c.others_may_be_left_out.ensures.refusals observers gone clock g before said old new kept leads
    c.jobs_keep_tables.ensures.changes c.plans_are_allowed.ensures c.transactions_are_told.ensures batch job step why talk next refused

pub returns-clause-marks : goal.returns-clause-marks
returns-clause-marks c observers gone clock g journal now kept after why refused =
    mark_in_time c.kept_tables_are_whole.ensures.whole c.refusals_carry_over.ensures c.others_may_be_left_out.ensures.refusals observers gone clock g journal now kept after why refused
