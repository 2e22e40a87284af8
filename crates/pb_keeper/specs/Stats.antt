-- What the runs of each observer did, counted along what the only seat said.
use Rattle.std.specs.Prelude.{◌≡◌, ℕ, ◌+◌, ◌<◌, ◌==◌, Bool, true, false, cond, List, [], ◌∷◌, ◌++◌, length, map, replicate, slice_index_or, Option, Some, None}
use Rattle.std.specs.Io.Iter.{u64_saturate}
use Rattle.pb_keeper.specs.Words.{Cell, ObserverOf, StateOf, Step, Work, Received, took, went, no_part, one_part, Reaches, RunOf, next_of, JobEnd, IsWholeRun, IsJobOn}
use Rattle.pb_keeper.specs.Leads.{SaidLeads}
use Rattle.pb_keeper.specs.declared.stats.ObserverStats.{ObserverStats}

-- before the first run
abbrev pub no_runs : ObserverStats
no_runs = record { runs = 0; nonzero = 0; conflicts = 0; asks = 0; instructions = 0 }

-- two together
abbrev pub sum_of : ObserverStats → ObserverStats → ObserverStats
sum_of a b = record { runs = a.runs + b.runs; nonzero = a.nonzero + b.nonzero; conflicts = a.conflicts + b.conflicts; asks = a.asks + b.asks; instructions = a.instructions + b.instructions }

-- each number as far as 64 bits can say
abbrev pub saturated : ObserverStats → ObserverStats
saturated a = record { runs = u64_saturate a.runs; nonzero = u64_saturate a.nonzero; conflicts = u64_saturate a.conflicts; asks = u64_saturate a.asks; instructions = u64_saturate a.instructions }

-- two together, as far as 64 bits can say
abbrev pub added : ObserverStats → ObserverStats → ObserverStats
added a b = saturated (sum_of a b)

-- ---- a run

-- a cell is read next
abbrev pub reads_next : Option Step → Bool
reads_next (Some (Step.Read start x)) = true
reads_next _ = false

-- one instruction, which asked for a cell where the job reads one next
abbrev pub instruction_stats : RunOf → ObserverStats
instruction_stats job = record { runs = 0; nonzero = 0; conflicts = 0; asks = cond (reads_next (next_of job)) 1 0; instructions = 1 }

-- all instructions of a run so far
abbrev pub instructions_in : (first : RunOf) (said : List Received) (job : RunOf) → Reaches first said job → ObserverStats
instructions_in first said job no_part = no_runs
instructions_in first said job (one_part k l before more h (took r is_next can is)) = instructions_in first before k h
instructions_in first said job (one_part k l before more h (went one)) = sum_of (instructions_in first before k h) (instruction_stats l)

-- it has come so far, and this many of them are counted
pub record ReachesAndDid (first job : RunOf) (stats : ObserverStats) (said : List Received) : Type 0 where
  pub reaches : Reaches first said job
  pub stats_are : stats ≡ saturated (instructions_in first said job reaches)

-- so a run came from one state to another
abbrev pub RanSoFar : RunOf → RunOf → ObserverStats → StateOf → StateOf → Type 0
RanSoFar first job stats old new = SaidLeads (ReachesAndDid first job stats) old new

-- a run that ended so
abbrev pub end_stats : JobEnd → ObserverStats
end_stats (JobEnd.Ran result) = record { runs = 1; nonzero = cond (result == 0) 0 1; conflicts = 0; asks = 0; instructions = 0 }
end_stats JobEnd.Conflicted = record { runs = 0; nonzero = 0; conflicts = 1; asks = 0; instructions = 0 }
end_stats _ = no_runs

-- a whole run of this job, which ended so and did this
pub record IsRunThatDid (first : RunOf) (end : JobEnd) (did : ObserverStats) (said : List Received) : Type 0 where
  pub whole : IsWholeRun first end said
  pub did_is : did ≡ sum_of (instructions_in first said whole.job whole.reaches) (end_stats end)

-- the same as a machine's numbers say it
pub record RanAndDid (first : RunOf) (end : JobEnd) (stats : ObserverStats) (said : List Received) : Type 0 where
  pub did : ObserverStats
  pub run : IsRunThatDid first end did said
  pub stats_are : stats ≡ saturated did

-- ---- a conversation

-- the step begins a run
abbrev pub starts_run : Step → Bool
starts_run (Step.Begin (Work.Run n row)) = true
starts_run _ = false

-- of the observer of this number, and nothing of others
abbrev pub only_at : ℕ → ObserverStats → ℕ → ObserverStats
only_at n did o = cond (n == o) did no_runs

-- what the runs of each observer did in a conversation, of which each step is one of a run or begins none
pub data AreStatsOf (observers : List ObserverOf) : List Received → (ℕ → ObserverStats) → Type 0 where
  nothing_said : AreStatsOf observers [] (λ o. no_runs)
  other_step : (said : List Received) (total : ℕ → ObserverStats) (r : Received) → AreStatsOf observers said total → starts_run r.step ≡ false → AreStatsOf observers (said ++ r ∷ []) total
  one_run : (said more : List Received) (total : ℕ → ObserverStats) (n : ℕ) (x : Cell) (first : RunOf) (end : JobEnd) (did : ObserverStats) → AreStatsOf observers said total → IsJobOn observers n x first → IsRunThatDid first end did more
      → AreStatsOf observers (said ++ more) (λ o. sum_of (total o) (only_at n did o))

-- the numbers that are kept for each observer are these
abbrev pub AreKeptStats : (ℕ → ObserverStats) → List ObserverStats → Type 0
AreKeptStats total stats = (o : ℕ) → o < length stats → slice_index_or stats o no_runs ≡ saturated (total o)

-- the conversation is of this form, and what its runs did was added to what is kept
pub record Counted (observers : List ObserverOf) (old new : List ObserverStats) (P : List Received → Type 0) (said : List Received) : Type 0 where
  pub form : P said
  pub total : ℕ → ObserverStats
  pub did : AreStatsOf observers said total
  pub as_many : length new ≡ length old
  pub grows : (before : ℕ → ObserverStats) → AreKeptStats before old → AreKeptStats (λ o. sum_of (before o) (total o)) new

-- ---- a table

-- a table, and what the runs of its observers did
pub record KeptTable : Type 0 where
  pub state : StateOf
  pub stats : List ObserverStats

abbrev pub kept_table : StateOf → List ObserverStats → KeptTable
kept_table state stats = record { state = state; stats = stats }

-- the numbers of so many observers before their first run
abbrev pub first_stats : List ObserverOf → List ObserverStats
first_stats observers = replicate (length observers) no_runs

-- what is kept of the observers at these places
abbrev pub chosen_stats : List ℕ → List ObserverStats → List ObserverStats
chosen_stats places stats = map (λ p. slice_index_or stats p no_runs) places

-- what the runs of an observer did, if there is one
abbrev pub total_at : (ℕ → ObserverStats) → Option ℕ → ObserverStats
total_at total None = no_runs
total_at total (Some p) = total p
