-- A run of an observer between two of its calls, and how it ended.
use Rattle.std.specs.Prelude.{◌≢◌, ℕ, Bool, true, false, List}
use Rattle.pb_threads.specs.Words.{Cell, ObserverOf, SeatOf, JobEnd, Need, RunOf, need_of, ComputesOn, Reaches}
use Rattle.pb_passes.specs.Passes.{IsObserverOf, job_on}
use Rattle.pb_threads.specs.Gains.{Gains}

-- it goes on by its machine's instructions alone, and isn't at one
pub record IsComputed (j k : RunOf) : Type 0 where
  pub on : ComputesOn j k
  pub calls : need_of k ≢ Need.Local

-- what the seat gained led the run to where it stands
pub record HasRunTo (observers : List ObserverOf) (n : ℕ) (x : Cell) (a b : SeatOf) (job : RunOf) : Type 0 where
  pub o : ObserverOf
  pub observer : IsObserverOf observers n x o
  pub gains : Gains (λ said. Reaches (job_on n o x) said job) a b

-- the end of a run that committed
abbrev pub is_ran_end : JobEnd → Bool
is_ran_end (JobEnd.Ran r) = true
is_ran_end _ = false

-- a run that needs this is over, and committed
abbrev pub has_ran : Need → Bool
has_ran (Need.Over end) = is_ran_end end
has_ran _ = false
