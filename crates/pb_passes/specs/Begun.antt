-- Passes that were cut off: just a beginning of what there was to ask, and the step that came next.
use Rattle.std.specs.Prelude.{◌≡◌, ℕ, ◌<◌, ◌⊎◌, List, [], ◌∷◌, Option, Some, None}
use Rattle.pb_passes.specs.Words.{Cell, row_of, Step, Answer, ObserverOf, Received, told, watch_of, run_job, IsSomeRun, EndsIn, HasAsked}
use Rattle.pb_passes.specs.declared.passes.TheConstants.{MAX_PASSES}
use Rattle.pb_passes.specs.Passes.{IsObserverOf, job_on, IsNextTurn, IsMarkRun, IsNextPass}

-- a run of the observer of this number on the cell was begun, and asks this step next, if any
pub record IsRunBegun (observers : List ObserverOf) (i : ℕ) (x : Cell) (next : Option Step) (said : List Received) : Type 0 where
  pub o : ObserverOf
  pub observer : IsObserverOf observers i x o
  pub run : HasAsked run_job (IsSomeRun (watch_of i o (row_of x))) (job_on i o x) next said

-- the runs of the first observers were made, and that of the next was begun
abbrev pub AreRunsBegun : List ObserverOf → Cell → Option Step → List Received → Type 0
AreRunsBegun observers x next said = EndsIn (IsNextTurn observers x) (λ i part. IsRunBegun observers i x next part) 0 said

-- the next mark is asked for, or was found and the runs on its cell were begun
abbrev pub IsMarkBegun : List ObserverOf → Option Step → Option Cell → List Received → Type 0
IsMarkBegun observers next after said =
    ((next ≡ Some (Step.NextMark after)) × (said ≡ [])) ⊎ ((x : Cell) × (more : List Received) × (said ≡ told (Step.NextMark after) (Answer.Marked x) ∷ more) × AreRunsBegun observers x next more)

-- marks of a pass were found, and the next was begun
abbrev pub IsPassBegun : List ObserverOf → Option Step → List Received → Type 0
IsPassBegun observers next said = EndsIn (IsMarkRun observers) (IsMarkBegun observers next) None said

-- passes that found marks were made, and the next was begun
abbrev pub IsDrainBegun : List ObserverOf → Option Step → List Received → Type 0
IsDrainBegun observers next said = EndsIn (IsNextPass observers) (λ count part. (count < MAX_PASSES) × IsPassBegun observers next part) 0 said
