-- A run of an observer by the only seat.
use Rattle.std.specs.Prelude.{◌≡◌, List}
use Rattle.pb_keeper.specs.Words.{Received, RunOf, RunPlace, Watch, fresh, run_job, IsMove}

-- before its first step
abbrev pub IsFreshJob : RunOf → Type 0
IsFreshJob job = (o : Watch) × (job ≡ fresh o)

-- a run did an instruction, or its next step was answered
abbrev pub MovesOnce : RunOf → RunOf → Type 0
MovesOnce old new = (said : List Received) × IsMove run_job old new said

-- its transaction's plan has begun, or the sweep after it, or the run is over
abbrev pub HasPlanned : RunPlace → Type 0
HasPlanned (RunPlace.Planning result plan) = Unit {0}
HasPlanned (RunPlace.Sweeping end) = Unit {0}
HasPlanned (RunPlace.Over end) = Unit {0}
HasPlanned place = ⊥
