-- Passes over the marked cells (OSDI 2010, section 2.4): each mark is found, and the observers of its column are run
-- on it.
use Rattle.std.specs.Prelude.{◌≡◌, ◌≢◌, ℕ, ◌<◌, ◌⊎◌, Bool, true, false, List, [], ◌∷◌, length, Option, Some, None, slice_get}
use Rattle.pb_passes.specs.Words.{Cell, row_of, column_of, Step, Answer, ObserverOf, Received, told, JobEnd, RunOf, watch_of, fresh, IsWholeRun, IsOfParts, EndsIn, IsNextOf}
use Rattle.pb_passes.specs.declared.passes.TheConstants.{MAX_PASSES}

-- the observer of this number is one of the cell's column
pub record IsObserverOf (observers : List ObserverOf) (n : ℕ) (x : Cell) (o : ObserverOf) : Type 0 where
  pub there : slice_get observers n ≡ Some o
  pub column : o.column ≡ column_of x

-- the run of this observer on the cell, before its first step
abbrev pub job_on : ℕ → ObserverOf → Cell → RunOf
job_on n o x = fresh (watch_of n o (row_of x))

-- there is an observer of this number, and its column is the cell's
abbrev pub HasColumn : List ObserverOf → ℕ → Cell → Type 0
HasColumn observers n x = (o : ObserverOf) × IsObserverOf observers n x o

-- a run of the observer of this number on the cell, before its first step
pub record IsJobOn (observers : List ObserverOf) (n : ℕ) (x : Cell) (job : RunOf) : Type 0 where
  pub o : ObserverOf
  pub there : slice_get observers n ≡ Some o
  pub job_is : job ≡ job_on n o x

-- a whole run of the observer of this number on the cell, and how it ended
pub record IsRun (observers : List ObserverOf) (n : ℕ) (x : Cell) (said : List Received) : Type 0 where
  pub o : ObserverOf
  pub observer : IsObserverOf observers n x o
  pub end : JobEnd
  pub whole : IsWholeRun (job_on n o x) end said

-- the observer of this number is one of another column
pub record IsOfOther (observers : List ObserverOf) (n : ℕ) (x : Cell) : Type 0 where
  pub o : ObserverOf
  pub there : slice_get observers n ≡ Some o
  pub column : o.column ≢ column_of x

-- the part of the observer of this number: its run, or nothing where its column is another
abbrev pub IsTurnOf : List ObserverOf → ℕ → Cell → List Received → Type 0
IsTurnOf observers n x said = IsRun observers n x said ⊎ (IsOfOther observers n x × (said ≡ []))

-- the turn of the next observer
abbrev pub IsNextTurn : List ObserverOf → Cell → ℕ → ℕ → List Received → Type 0
IsNextTurn observers x n m said = IsNextOf (λ i part. IsTurnOf observers i x part) n m said

-- a run of each observer of the cell's column among the first so many, in file order
abbrev pub AreRuns : List ObserverOf → Cell → ℕ → List Received → Type 0
AreRuns observers x n said = IsOfParts (IsNextTurn observers x) 0 n said

-- a run of each observer of the cell's column
abbrev pub AreAllRuns : List ObserverOf → Cell → List Received → Type 0
AreAllRuns observers x said = AreRuns observers x (length observers) said

-- the next mark was found, after this one, and then come the runs on its cell
pub record IsMarkRun (observers : List ObserverOf) (after now : Option Cell) (said : List Received) : Type 0 where
  pub x : Cell
  pub found : now ≡ Some x
  pub more : List Received
  pub runs : AreAllRuns observers x more
  pub said_is : said ≡ told (Step.NextMark after) (Answer.Marked x) ∷ more

-- from the beginning on to this cell each mark was found, and followed by the runs on its cell
abbrev pub IsWalk : List ObserverOf → List Received → Option Cell → Type 0
IsWalk observers said last = IsOfParts (IsMarkRun observers) None last said

-- no mark was found after the last cell
abbrev pub IsMarkless : Option Cell → Option Cell → List Received → Type 0
IsMarkless last after said = (after ≡ last) × (said ≡ told (Step.NextMark after) Answer.NoMark ∷ [])

-- one pass on to where there is no mark; it ends so after the last cell that it found, if any
abbrev pub IsPass : List ObserverOf → Option Cell → List Received → Type 0
IsPass observers last said = EndsIn (IsMarkRun observers) (IsMarkless last) None said

-- one that found a mark, or none
abbrev pub IsPassThat : List ObserverOf → Bool → List Received → Type 0
IsPassThat observers true said = (x : Cell) × IsPass observers (Some x) said
IsPassThat observers false said = IsPass observers None said

-- the next pass, which found a mark
abbrev pub IsNextPass : List ObserverOf → ℕ → ℕ → List Received → Type 0
IsNextPass observers n m said = IsNextOf (λ i part. IsPassThat observers true part) n m said

-- so many passes, each of which found a mark
abbrev pub ArePasses : List ObserverOf → ℕ → List Received → Type 0
ArePasses observers n said = IsOfParts (IsNextPass observers) 0 n said

-- after so many passes one that finds no mark, or nothing where no more may be made
abbrev pub EndsDrain : List ObserverOf → ℕ → List Received → Type 0
EndsDrain observers count said = ((count < MAX_PASSES) × IsPass observers None said) ⊎ ((count ≡ MAX_PASSES) × (said ≡ []))

-- the first pass that finds no mark is the last, or the last that may be made
abbrev pub IsDrain : List ObserverOf → List Received → Type 0
IsDrain observers said = EndsIn (IsNextPass observers) (EndsDrain observers) 0 said
