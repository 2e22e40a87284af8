-- Each step of the only seat comes in its time: it is refused only where no timestamp is left.
use Rattle.std.proofs.Common.{◌≡◌, ◌≢◌, ℕ, ◌<◌, ◌^◌, Bool, true, false, cond, List, [], ◌∷◌, Option, Some, None, refl, sym, ap, subst, ◌∙◌, slice_get}
use Rattle.std.proofs.lemmas.Bool.{eqb-true}
use Rattle.pb_keeper.specs.Words.{Writes, row_of, column_of, Cell, Reason, ObserverOf, last_timestamp, is_unknown, read_reasons, read_at_reasons, declare_reasons, prewrite_reasons, unstamped_reasons, commit_reasons, secondary_reasons, Reasons, first_reason, is_out, no_seat, own_transaction, reasons_of, seat_reasons, StateOf, TransactionOf, step_reason, Step, ChangeOf, entries_by, RunOf, next_of, Reaches, HasColumn, IsJobOn, ChangesAreInTime, MarksAreInTime, RunsAreInTime}
use Rattle.pb_txn.specs.Changes.{next_of as change_next}
use Rattle.pb_base.proofs.Logic.{one_value, same_some}
use Rattle.pb_keeper.specs.Stats.{RanSoFar}
use Rattle.pb_keeper.specs.declared.stats.ObserverStats.{ObserverStats}
use Rattle.pb_keeper.specs.declared.change.Stopped.{Stopped}
use Rattle.pb_keeper.specs.Stops.{WasKept, IsLeftFor, IsStop, IsKnownJob}
use Rattle.pb_keeper.proofs.KeptTables.{kept_observers}
use Rattle.pb_keeper.proofs.Reaching.{ChangedSoFar}

-- ---- no timestamp is left

-- none of these reasons is that no timestamp is left
abbrev AreOthers : Reasons → Type 0
AreOthers [] = Unit {0}
AreOthers (r ∷ rs) = (r.0 ≢ Reason.OutOfTimestamps) × AreOthers rs

others_not : (rs : Reasons) → AreOthers rs → first_reason rs ≡ Some Reason.OutOfTimestamps → ⊥
others_not [] o e = cc
others_not (r ∷ rs) o e = elim r.1 as (λ b. cond b (Some r.0) (first_reason rs) ≡ Some Reason.OutOfTimestamps → ⊥) [
  | true ↦ λ h. o.0 (same_some r.0 Reason.OutOfTimestamps h)
  | false ↦ λ h. others_not rs o.1 h
] e

own_others : (o : Option TransactionOf) (why : TransactionOf → Reasons) → ((t : TransactionOf) → AreOthers (why t)) → AreOthers (reasons_of o why)
own_others None why are = ((λ q. cc), tt)
own_others (Some t) why are = are t

-- it is the first reason, or none
out_first : (b : Bool) (rs : Reasons) → AreOthers rs → first_reason ((Reason.OutOfTimestamps, b) ∷ rs) ≡ Some Reason.OutOfTimestamps → b ≡ true
out_first true rs o e = refl
out_first false rs o e = absurd (others_not rs o e)

-- the clock is at its last
pub out_is_last : (state : StateOf) (seat : ℕ) (step : Step) → step_reason state seat step ≡ Some Reason.OutOfTimestamps → state.clock ≡ last_timestamp
out_is_last state seat (Step.Begin work) e = eqb-true state.clock last_timestamp (out_first (is_out state) ((Reason.NotOfSeat, no_seat state seat) ∷ (Reason.NoSuchObserver, is_unknown state.observers work) ∷ []) ((λ q. cc), ((λ q. cc), tt)) e)
out_is_last state seat (Step.Read s x) e = absurd (others_not _ (own_others (own_transaction state seat s.0) read_reasons (λ t. ((λ q. cc), tt))) e)
out_is_last state seat (Step.ReadAt s x at) e = absurd (others_not _ (own_others (own_transaction state seat s.0) (read_at_reasons s.0 at.0) (λ t. ((λ q. cc), ((λ q. cc), tt)))) e)
out_is_last state seat (Step.Declare s what) e = absurd (others_not _ (own_others (own_transaction state seat s.0) (declare_reasons state.observers s.0 what) (λ t. ((λ q. cc), ((λ q. cc), tt)))) e)
out_is_last state seat (Step.Prewrite s x) e = absurd (others_not _ (own_others (own_transaction state seat s.0) (prewrite_reasons x) (λ t. ((λ q. cc), ((λ q. cc), ((λ q. cc), tt))))) e)
out_is_last state seat (Step.Stamp s) e = eqb-true state.clock last_timestamp (out_first (is_out state) _ (own_others (own_transaction state seat s.0) unstamped_reasons (λ t. ((λ q. cc), tt))) e)
out_is_last state seat (Step.CommitPrimary s) e = absurd (others_not _ (own_others (own_transaction state seat s.0) commit_reasons (λ t. ((λ q. cc), tt))) e)
out_is_last state seat (Step.CommitSecondary s x) e = absurd (others_not _ (own_others (own_transaction state seat s.0) (secondary_reasons x) (λ t. ((λ q. cc), ((λ q. cc), tt)))) e)
out_is_last state seat (Step.Settle x) e = absurd (others_not (seat_reasons state seat) ((λ q. cc), tt) e)
out_is_last state seat (Step.Clear x) e = absurd (others_not (seat_reasons state seat) ((λ q. cc), tt) e)
out_is_last state seat (Step.NextMark x) e = absurd (others_not (seat_reasons state seat) ((λ q. cc), tt) e)
out_is_last state seat (Step.Sweep x) e = absurd (others_not (seat_reasons state seat) ((λ q. cc), tt) e)

-- ---- so it stops for nothing else

-- a step that was refused has changed nothing
stops_by : (state new : StateOf) (step : Step) (e : Stopped) → new ≡ state → IsLeftFor state step e → ((why : Reason) → step_reason state 0 step ≡ Some why → why ≡ Reason.OutOfTimestamps) → IsStop e new
stops_by state new step (Stopped.NoMemory n) same is out = tt
stops_by state new step (Stopped.Refused why) same is out = subst (IsStop (Stopped.Refused why)) (sym same) (out why is, out_is_last state 0 step (subst (λ w. step_reason state 0 step ≡ Some w) (out why is) is))
stops_by state new step Stopped.Conflict same is out = absurd is

pub mark_stops : MarksAreInTime → (state new : StateOf) (x : Option Cell) (e : Stopped) → WasKept state → new ≡ state → IsLeftFor state (Step.NextMark x) e → IsStop e new
mark_stops in_time state new x e k same is = stops_by state new (Step.NextMark x) e same is (λ why refused. absurd (in_time k.observers k.gone 0 k.c (entries_by 0 k.said) state k.kept x why refused))

pub run_stops : RunsAreInTime → (first job : RunOf) (stats : ObserverStats) (start state new : StateOf) (step : Step) (e : Stopped) → WasKept start → IsKnownJob start.observers first → RanSoFar first job stats start state → next_of job ≡ Some step → new ≡ state → IsLeftFor state step e → IsStop e new
run_stops in_time first job stats start state new step e k is so_far next same refusal =
    let there = subst (λ (l : List ObserverOf). slice_get l is.n ≡ Some is.o) (kept_observers k.observers k.gone 1 0 k.c (entries_by 0 k.said) start k.kept) is.there in
    let reaches = subst (λ (j : RunOf). Reaches j so_far.said job) is.is so_far.form.reaches in
    stops_by state new step e same refusal (λ why refused. in_time k.observers k.gone 0 k.c k.said so_far.said start state k.kept so_far.leads is.n is.o is.row job step why there is.row_fits is.column_fits reaches next refused)

pub change_stops : ChangesAreInTime → (batch : Writes) (job : ChangeOf) (start state new : StateOf) (step : Step) (e : Stopped) → WasKept start → ChangedSoFar batch job start state → change_next job ≡ Some step → new ≡ state → IsLeftFor state step e → IsStop e new
change_stops in_time batch job start state new step e k so_far next same refusal =
    stops_by state new step e same refusal (λ why refused. in_time k.observers k.gone 0 k.c k.said so_far.said start state k.kept so_far.leads batch job step why so_far.form next refused)

-- the job of an observer on a cell of its column
pub job_is_of : (observers : List ObserverOf) (n : ℕ) (x : Cell) (job : RunOf) → (row_of x).0 < 2 ^ 64 → column_of x < 2 ^ 64 → HasColumn observers n x → IsJobOn observers n x job → IsKnownJob observers job
job_is_of observers n x job row column known on =
    let same : known.0 ≡ on.o = one_value (slice_get observers n) known.0 on.o known.1.there on.there in
    record {
      n = n;
      o = on.o;
      row = row_of x;
      there = on.there;
      row_fits = row;
      column_fits = subst (λ c. c < 2 ^ 64) (sym (ap (λ (o : ObserverOf). o.column) (sym same) ∙ known.1.column)) column;
      is = on.job_is;
    }
