-- From a sound table without locks on, no prewrite of its only seat meets a conflict, and so no run is counted as one that did.
use Rattle.std.proofs.Common.{arith, ◌≡◌, ℕ, ◌==◌, Bool, true, false, cond, List, [], ◌∷◌, ◌++◌, Option, None, refl, sym, ap, subst, ◌∙◌}
use Rattle.std.proofs.lemmas.Bool.{true≢false}
use Rattle.pb_passes.proofs.Drains.{HoldsOfRuns}
use Rattle.pb_keeper.specs.Words.{Writes, Cell, Ts, ObserverOf, Meant, StateOf, Step, Answer, Declared, JournalLeads, StepsKeepSound, IsSoundTable, Received, told, IsWhole, committed, conflicted_first, conflicted_later, lost, prewrites, Outcome, entries_by, took, went, no_part, one_part, Reaches, its_begin, IsRunConversation, absent, clean, ran, conflicted, blocked, RunOf, Watch, JobEnd, IsUnlocked}
use Rattle.pb_notify.specs.Forms.{lost as lost_run}
use Rattle.pb_keeper.specs.Leads.{IsEndedChange}
use Rattle.pb_keeper.specs.Stats.{no_runs, end_stats, instructions_in, AreStatsOf, nothing_said, other_step, one_run}
use Rattle.pb_keeper.specs.declared.stats.ObserverStats.{ObserverStats}
use Rattle.pb_keeper.proofs.EachStep.{AreEach, each_as, each_first, each_last, each_on, each_prewrite, each_secondary}
use Rattle.pb_keeper.proofs.Resting.{Rests, change_rests, parts_rest}
use Rattle.pb_keeper.proofs.Wholes.{is_plain, IsPlain, ArePlain, IsPlainFrom, IsUndisturbed, from_more, looked_from, begin_from, acknowledged_from, asked_from, leads_parts, stays_sound, run_rests, change_commits}

-- ---- conversations

-- a prewrite is answered with a conflict
abbrev is_conflict : Step → Answer → Bool
is_conflict (Step.Prewrite s x) Answer.Conflict = true
is_conflict _ _ = false

abbrev IsConflictless : Received → Type 0
IsConflictless r = is_conflict r.step r.answer ≡ false

-- none of these is
abbrev pub MeetNoConflict : List Received → Type 0
MeetNoConflict said = AreEach IsConflictless said

-- nor is any in a begin and looks
plain_meets_none : (step : Step) (answer : Answer) → is_plain step ≡ true → is_conflict step answer ≡ false
plain_meets_none step answer p = grind arith

plain_none : (said : List Received) → ArePlain said → MeetNoConflict said
plain_none said p = each_as IsPlain IsConflictless (λ r is. plain_meets_none r.step r.answer is) said p

from_none : (s : Ts) (said : List Received) → IsPlainFrom s said → MeetNoConflict said
from_none s said f = subst MeetNoConflict (sym f.said_is) (refl, plain_none f.rest f.plain)

-- ---- a transaction

module _ (s : Ts) where
  -- one that committed met none
  committed_none : (what : Declared) (cells : List Cell) (said : List Received) (o : Outcome) (d : Ts) → IsWhole s what cells said o → o ≡ Outcome.Committed d → MeetNoConflict said
  committed_none what cells said o d (committed x others c) e =
      (refl, each_on IsConflictless (prewrites s (x ∷ others)) _ (each_prewrite IsConflictless s (λ y. refl) (x ∷ others)) (refl, (refl, each_secondary IsConflictless s (λ y. refl) others)))
  committed_none what cells said o d (conflicted_first x after) e = cc
  committed_none what cells said o d (conflicted_later x y before after z cs can are) e = cc
  committed_none what cells said o d (lost x others c cs are) e = cc

  -- and one that ended with a conflict met that
  conflicted_met : (what : Declared) (cells : List Cell) (said : List Received) (o : Outcome) → IsWhole s what cells said o → o ≡ Outcome.Conflicted → MeetNoConflict said → ⊥
  conflicted_met what cells said o (committed x others c) e none = cc
  conflicted_met what cells said o (conflicted_first x after) e none = true≢false none.1.0
  conflicted_met what cells said o (conflicted_later x y before after z cs can are) e none =
      true≢false (each_last IsConflictless (prewrites s (x ∷ before)) (told (Step.Prewrite s y) Answer.Conflict ∷ told (Step.Settle x) z ∷ cs) none.1).0
  conflicted_met what cells said o (lost x others c cs are) e none = cc

-- ---- a run

-- one that committed, or found nothing to do, met none
undisturbed_none : (o : Watch) (said : List Received) (end : JobEnd) (run : Option Meant) → IsRunConversation o said end run → IsUndisturbed end → MeetNoConflict said
undisturbed_none o said end run (absent s k before w look none few can) u = from_none s _ (from_more s before _ (looked_from s _ None 0 (its_begin o s) k before look (begin_from s o)) (refl, tt))
undisturbed_none o said end run (clean s seen k before w i late few can) u = from_none s _ (from_more s before _ (acknowledged_from s o seen k before i) (refl, tt))
undisturbed_none o said end run (ran s seen talk k before plan f c w i few on whole can) u =
    each_on IsConflictless (before ++ plan) (told (Step.Sweep (Cell.Data o.row o.column)) w ∷ [])
    (each_on IsConflictless before plan (from_none s before (asked_from s o seen talk k before i)) (committed_none s (Declared.Run o.observer f) _ plan (Outcome.Committed c) c whole refl)) (refl, tt)
undisturbed_none o said end run (conflicted s seen talk k before plan f i few on whole) u = absurd u
undisturbed_none o said end run (lost_run s seen talk k before plan f i few on whole) u = absurd u
undisturbed_none o said end run (blocked s x at j base k before t primary from rounds last) u = absurd u

-- and one that met none isn't counted as one that did
run_counts_none : (o : Watch) (said : List Received) (end : JobEnd) (run : Option Meant) → IsRunConversation o said end run → MeetNoConflict said → (end_stats end).conflicts ≡ 0
run_counts_none o said end run (absent s k before w look none few can) met = refl
run_counts_none o said end run (clean s seen k before w i late few can) met = refl
run_counts_none o said end run (ran s seen talk k before plan f c w i few on whole can) met = refl
run_counts_none o said end run (conflicted s seen talk k before plan f i few on whole) met =
    absurd (conflicted_met s (Declared.Run o.observer f) _ plan Outcome.Conflicted whole refl (each_last IsConflictless before plan met))
run_counts_none o said end run (lost_run s seen talk k before plan f i few on whole) met = refl
run_counts_none o said end run (blocked s x at j base k before t primary from rounds last) met = refl

-- ---- what is counted

instructions_none : (first : RunOf) (said : List Received) (job : RunOf) (r : Reaches first said job) → (instructions_in first said job r).conflicts ≡ 0
instructions_none first said job no_part = refl
instructions_none first said job (one_part k l before more h (took r is_next can is)) = instructions_none first before k h
instructions_none first said job (one_part k l before more h (went one)) = let none = instructions_none first before k h in omega (arith, none)

only_none : (b : Bool) (did : ObserverStats) → did.conflicts ≡ 0 → (cond b did no_runs).conflicts ≡ 0
only_none true did none = none
only_none false did none = refl

pub counts_none : (observers : List ObserverOf) (said : List Received) (total : ℕ → ObserverStats) → AreStatsOf observers said total → MeetNoConflict said → (o : ℕ) → (total o).conflicts ≡ 0
counts_none observers said total nothing_said met o = refl
counts_none observers said total (other_step before was r are isnt) met o = counts_none observers before was are (each_first IsConflictless before (r ∷ []) met) o
counts_none observers said total (one_run before more was n x first end did are job did_run) met o =
    let earlier = counts_none observers before was are (each_first IsConflictless before more met) o in
    let ended = run_counts_none first.watch more end did_run.whole.run did_run.whole.talk (each_last IsConflictless before more met) in
    let asked = instructions_none first more did_run.whole.job did_run.whole.reaches in
    let its : did.conflicts ≡ 0 = ap (λ (z : ObserverStats). z.conflicts) did_run.did_is ∙ omega (arith, ended, asked) in
    let here = only_none (n == o) did its in
    omega (arith, earlier, here)

-- ---- what the only seat does

-- from a sound table without locks on, the conversation meets no conflict
abbrev pub MeetsNone : List Received → Type 0
MeetsNone said = (m n : StateOf) → IsSoundTable m → IsUnlocked m → JournalLeads m (entries_by 0 said) n → MeetNoConflict said

module _ (keeps : StepsKeepSound) (observers : List ObserverOf) where
  pub parts_meet_none : HoldsOfRuns observers (λ said. Rests said × MeetsNone said)
  parts_meet_none =
      let rest = parts_rest keeps observers in
      record {
        adds = record {
          nothing = (rest.adds.nothing, λ m n sound free r. tt);
          both = λ a b p q. (
            rest.adds.both a b p.0 q.0,
            λ m n sound free r.
                let parts = leads_parts m n a b r in
                each_on IsConflictless a b (p.1 m parts.0 sound free parts.1) (q.1 parts.0 n (stays_sound keeps m parts.0 a sound parts.1) (p.0 m parts.0 sound free parts.1) parts.2),
          );
        };
        mark = λ after a. (rest.mark after a, λ m n sound free r. (refl, tt));
        run = λ i x said is. (rest.run i x said is, λ m n sound free r. undisturbed_none _ said is.end is.whole.run is.whole.talk (run_rests keeps _ said is.end is.whole.run m n is.whole.talk sound free r).0);
      }

  pub change_meets_none : (batch : Writes) (o : Outcome) (said : List Received) → IsEndedChange batch o said → Rests said × MeetsNone said
  change_meets_none batch o said is = (
    change_rests keeps batch o said is,
    λ m n sound free r.
        let e = (change_commits keeps batch o m n sound free (record { said = said; form = is; leads = r })).0 in
        subst MeetNoConflict (sym is.1.said_is) (refl, committed_none is.0 _ _ is.1.rest o e.0 is.1.whole e.1),
  )
