-- An observer's run on its way to its end.
use Rattle.std.proofs.Common.{arith, ◌≡◌, ◌≢◌, ℕ, List, Some, sym, subst, Option, None, refl}
use Rattle.pb_conversations.proofs.Joining.{parts_join}
use Rattle.pb_threads.specs.Words.{Cell, row_of, Refusal, Step, Answer, CanAnswer, ObserverOf, SeatOf, told, JobEnd, Need, RunOf, watch_of, need_of, HasNext, HearsLook, ComputesOn, Reaches, took, no_part, one_part, JobsConverse, JobsEnd}
use Rattle.pb_notify.specs.Runs.{next_of, answered}
use Rattle.pb_passes.specs.Passes.{HasColumn, IsRun, IsJobOn, job_on}
use Rattle.pb_passes.specs.Begun.{IsRunBegun}
use Rattle.pb_threads.specs.Gains.{OpeningOf, Gains, Told, IsSeatStop}
use Rattle.pb_threads.specs.Runs.{HasRunTo}
use Rattle.pb_threads.specs.Stops.{Stops}
use Rattle.pb_threads.proofs.Gaining.{gains_none, gains_as, gains_on, gains_more, gains_left}

-- before its first step the seat has gained nothing
pub run_at_first : (observers : List ObserverOf) (n : ℕ) (x : Cell) (a : SeatOf) (known : HasColumn observers n x) → HasRunTo observers n x a a (job_on n known.0 x)
run_at_first observers n x a known = record { o = known.0; observer = known.1; gains = gains_none no_part }

-- a run begins with a call, and not in its machine
begins : (n : ℕ) (o : ObserverOf) (x : Cell) → need_of (job_on n o x) ≢ Need.Local
begins n o x e = cc

-- the job that is made stands there
pub job_is : (observers : List ObserverOf) (n : ℕ) (x : Cell) (job : RunOf) (known : HasColumn observers n x) → IsJobOn observers n x job → job ≡ job_on n known.0 x
job_is observers n x job known is = grind arith

pub first_calls : (observers : List ObserverOf) (n : ℕ) (x : Cell) (job : RunOf) → HasColumn observers n x → IsJobOn observers n x job → need_of job ≢ Need.Local
first_calls observers n x job known is = subst (λ j. need_of j ≢ Need.Local) (sym (job_is observers n x job known is)) (begins n known.0 x)

module _ {observers : List ObserverOf} {n : ℕ} {x : Cell} {a b : SeatOf} {job : RunOf} (along : HasRunTo observers n x a b job) where
  -- its next step was answered, and its machine did what instructions it could
  pub run_after_step : {step : Step} {answer : Answer} {c : SeatOf} {l k : RunOf} → next_of job ≡ Some step → CanAnswer step answer → Told b step answer c → l ≡ answered job answer → HearsLook job answer l → ComputesOn l k → HasRunTo observers n x a c k
  run_after_step {step} {answer} {l = l} {k = k} e can t is hears on = record {
    o = along.o;
    observer = along.observer;
    gains = gains_on (gains_more along.gains t (λ said h. one_part job l said _ h (took (told step answer) e can (is, hears)))) (gains_none {P = λ more. Reaches l more k} on)
        (λ said more h more_on. parts_join (job_on n along.o x) l k said more h more_on);
  }

  -- it was cut off
  pub run_left : {opens : Option OpeningOf} {r : Refusal} → JobsConverse → IsSeatStop opens b.number (next_of job) r → Gains (Stops opens a.number (IsRunBegun observers n x) r) a b
  run_left law stop =
      gains_left (next_of job) along.gains (λ said h. record { o = along.o; observer = along.observer; run = record { at = job; talk = h; begins = law (watch_of n along.o (row_of x)) said job h; next_is = refl } }) stop

-- ---- at its end

-- a run that neither computes nor calls is over
over : (job : RunOf) → need_of job ≢ Need.Local → next_of job ≡ None → (need_of job ≡ Need.Call → HasNext job) → (w : Need) → need_of job ≡ w → (end : JobEnd) × (need_of job ≡ Need.Over end)
over job calls none some Need.Local e = absurd (calls e)
over job calls none some Need.Call e = let has = some e in absurd (grind arith)
over job calls none some (Need.Over end) e = (end, e)

-- at its end a run is a whole one
pub run_ends : {observers : List ObserverOf} {n : ℕ} {x : Cell} {a b : SeatOf} {job : RunOf} → HasRunTo observers n x a b job → JobsEnd → need_of job ≢ Need.Local → next_of job ≡ None → (need_of job ≡ Need.Call → HasNext job) → Gains (IsRun observers n x) a b
run_ends {n = n} {x = x} {job = job} along law calls none some =
    let ends = over job calls none some (need_of job) refl in
    gains_as
    (λ said h.
    let talk = law (watch_of n along.o (row_of x)) said job ends.0 h ends.1 in
    record { o = along.o; observer = along.observer; end = ends.0; whole = record { job = job; reaches = h; over = ends.1; run = talk.0; talk = talk.1; meant = talk.2 } })
    along.gains
