-- One step more of a run or a change, by its seat's conversation.
use Rattle.std.proofs.Common.{◌≡◌, [], ◌∷◌, ◌++◌, refl, sym, ap, subst, ◌∙◌, Some}
use Rattle.std.proofs.lemmas.List.{append-nil}
use Rattle.pb_keeper.specs.Words.{Step, Answer, CanAnswer, StateOf, TableStep, JournalLeads, told, RunOf, next_of, need_of, HearsLook, Computes, JobEnd, Need, took, went, no_part, one_part, Reaches, BeginsRun, IsRunConversation, IsWholeRun, JobsConverse, JobsEnd, entries_by, Watch, Writes, ChangeOf, Converses, new_change, answered}
use Rattle.pb_txn.specs.Changes.{answered as change_answered, next_of as change_next}
use Rattle.pb_keeper.specs.Leads.{SaidLeads}
use Rattle.pb_keeper.specs.Runs.{IsFreshJob}
use Rattle.pb_keeper.specs.Stats.{no_runs, sum_of, added, instruction_stats, instructions_in, end_stats, RanAndDid, RanSoFar, ReachesAndDid}
use Rattle.pb_keeper.specs.declared.stats.ObserverStats.{ObserverStats}
use Rattle.pb_keeper.proofs.Leading.{leads_on, leads_one}
use Rattle.pb_keeper.proofs.Statistics.{added_more}

pub at_start : (job : RunOf) (s : StateOf) → IsFreshJob job → RanSoFar job job no_runs s s
at_start job s is = record { said = []; form = record { reaches = no_part; stats_are = refl }; leads = refl }

-- one instruction more
pub computes_more : (first job next : RunOf) (stats more : ObserverStats) (old new : StateOf) → RanSoFar first job stats old new → need_of job ≡ Need.Local → Computes job next → more ≡ added stats (instruction_stats next) → RanSoFar first next more old new
computes_more first job next stats more old new so_far is_next one is = record {
  said = so_far.said ++ [];
  form = record {
    reaches = one_part job next so_far.said [] so_far.form.reaches (went (is_next, one));
    stats_are = is ∙ ap (λ s. added s (instruction_stats next)) so_far.form.stats_are ∙ added_more (instructions_in first so_far.said job so_far.form.reaches) (instruction_stats next);
  };
  leads = subst (λ l. JournalLeads old (entries_by 0 l) new) (sym (append-nil so_far.said)) so_far.leads;
}

pub hears_more : (first job next : RunOf) (stats : ObserverStats) (old mid new : StateOf) (step : Step) (answer : Answer) → RanSoFar first job stats old mid → next_of job ≡ Some step → CanAnswer step answer → TableStep mid 0 step answer new → next ≡ answered job answer → HearsLook job answer next
    → RanSoFar first next stats old new
hears_more first job next stats old mid new step answer so_far is_next can taken is look =
    let r = told step answer in
    leads_on so_far (leads_one mid new step answer taken)
    (λ said more p e. subst (λ l. ReachesAndDid first next stats (said ++ l)) (sym e) (record { reaches = one_part job next said (r ∷ []) p.reaches (took r is_next can (is, look)); stats_are = p.stats_are }))

-- of what it watches
watch_is : (first : RunOf) (is : IsFreshJob first) → first.watch ≡ is.0
watch_is first is = ap (λ (j : RunOf). j.watch) is.1

pub run_begins : (first job : RunOf) (stats : ObserverStats) (old new : StateOf) → JobsConverse → IsFreshJob first → RanSoFar first job stats old new → SaidLeads (BeginsRun first.watch) old new
run_begins first job stats old new law is so_far =
    let begun = law is.0 so_far.said job (subst (λ (j : RunOf). Reaches j so_far.said job) is.1 so_far.form.reaches) in
    record { said = so_far.said; form = subst (λ (o : Watch). BeginsRun o so_far.said) (sym (watch_is first is)) begun; leads = so_far.leads }

-- where it is over, the whole run, and what it did
pub run_ends : (first job : RunOf) (end : JobEnd) (stats all : ObserverStats) (old new : StateOf) → JobsEnd → IsFreshJob first → RanSoFar first job stats old new → need_of job ≡ Need.Over end → all ≡ added stats (end_stats end) → SaidLeads (RanAndDid first end all) old new
run_ends first job end stats all old new law is so_far over sum =
    let talk = law is.0 so_far.said job end (subst (λ (j : RunOf). Reaches j so_far.said job) is.1 so_far.form.reaches) over in
    let did = instructions_in first so_far.said job so_far.form.reaches in
    let whole : IsWholeRun first end so_far.said = record {
      job = job;
      reaches = so_far.form.reaches;
      over = over;
      run = talk.0;
      talk = subst (λ (o : Watch). IsRunConversation o so_far.said end talk.0) (sym (watch_is first is)) talk.1;
      meant = talk.2;
    } in
    record {
      said = so_far.said;
      form = record { did = sum_of did (end_stats end); run = record { whole = whole; did_is = refl }; stats_are = sum ∙ ap (λ s. added s (end_stats end)) so_far.form.stats_are ∙ added_more did (end_stats end) };
      leads = so_far.leads;
    }

-- ---- a change

-- how far a change has come
abbrev pub ChangedSoFar : Writes → ChangeOf → StateOf → StateOf → Type 0
ChangedSoFar batch job old new = SaidLeads (λ said. Converses (new_change batch) said job) old new

-- it goes on by its next step
pub goes_on : (batch : Writes) (job : ChangeOf) (old mid new : StateOf) (step : Step) (answer : Answer) → ChangedSoFar batch job old mid → change_next job ≡ Some step → CanAnswer step answer → TableStep mid 0 step answer new → ChangedSoFar batch (change_answered job answer) old new
goes_on batch job old mid new step answer so_far next can taken =
    let r = told step answer in
    leads_on so_far (leads_one mid new step answer taken)
    (λ said more p e. subst (λ l. Converses (new_change batch) (said ++ l) (change_answered job answer)) (sym e) (one_part job (change_answered job answer) said (r ∷ []) p (took r next can refl)))
