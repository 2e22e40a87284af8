-- Drains of a kept table, which make so many runs at most: whole ones, and those that are cut off where a run more is due. So a drain ends
-- whatever its observers do, also where one of them is due again within the same pass.
use Rattle.std.specs.Prelude.{◌≡◌, ℕ, ◌<◌, ◌≤◌, Bool, true, false, List, [], ◌∷◌, Option, Some, None, count_by}
use Rattle.pb_keeper.specs.Words.{Cell, ObserverOf, Step, Answer, Received, told, EndsIn, HasColumn, AreAllRuns, IsTurnOf, IsNextTurn, IsMarkRun, IsPass, IsNextPass, IsDrain, MAX_PASSES}
use Rattle.pb_keeper.specs.declared.passes.PassEnd.{PassEnd}
use Rattle.pb_keeper.specs.Stats.{starts_run}

-- how many runs of observers were begun, however they ended
abbrev pub begun_count : List Received → ℕ
begun_count said = count_by (λ r. starts_run r.step) said

-- a run of the observer of this number on the cell is due, and hasn't begun
abbrev pub IsRunDue : List ObserverOf → Cell → ℕ → List Received → Type 0
IsRunDue observers x i said = HasColumn observers i x × (said ≡ [])

-- the turns of the first observers are over, and a run of the next one is due
abbrev pub AreRunsDue : List ObserverOf → Cell → List Received → Type 0
AreRunsDue observers x said = EndsIn (IsNextTurn observers x) (IsRunDue observers x) 0 said

-- the next mark was found, and a run on its cell is due
pub record IsMarkDue (observers : List ObserverOf) (after : Option Cell) (said : List Received) : Type 0 where
  pub x : Cell
  pub more : List Received
  pub runs : AreRunsDue observers x more
  pub said_is : said ≡ told (Step.NextMark after) (Answer.Marked x) ∷ more

-- marks of a pass were found, and a run on the cell of the last is due
abbrev pub IsPassDue : List ObserverOf → List Received → Type 0
IsPassDue observers said = EndsIn (IsMarkRun observers) (IsMarkDue observers) None said

-- passes that found marks were made, and a run of the next one is due
abbrev pub IsDrainDue : List ObserverOf → List Received → Type 0
IsDrainDue observers said = EndsIn (IsNextPass observers) (λ count part. (count < MAX_PASSES) × IsPassDue observers part) 0 said

-- a drain that makes so many runs at most: a whole one, or as many runs, where another is due
pub data IsDrainWithin (observers : List ObserverOf) (bound : ℕ) (said : List Received) : Type 0 where
  within : (drain : IsDrain observers said) → begun_count said ≤ bound → IsDrainWithin observers bound said
  cut_off : (due : IsDrainDue observers said) → begun_count said ≡ bound → IsDrainWithin observers bound said

-- ---- parts of it, on their way

-- a conversation of this form in which so many runs were begun
abbrev pub HasRuns : (List Received → Type 0) → ℕ → List Received → Type 0
HasRuns P n said = P said × (begun_count said ≡ n)

-- the turn of an observer on the cell, or its run that is due
abbrev pub IsTurnThat : List ObserverOf → Cell → ℕ → Bool → List Received → Type 0
IsTurnThat observers x i true said = IsRunDue observers x i said
IsTurnThat observers x i false said = IsTurnOf observers i x said

-- the turns of all on the cell, or those of the first and then a run that is due
abbrev pub AreRunsThat : List ObserverOf → Cell → Bool → List Received → Type 0
AreRunsThat observers x true said = AreRunsDue observers x said
AreRunsThat observers x false said = AreAllRuns observers x said

-- how a pass ends that finds no mark after this one, or none at all
abbrev pub end_after : Option Cell → PassEnd
end_after None = PassEnd.Markless
end_after (Some x) = PassEnd.Marked

-- a pass that ended so
abbrev pub IsPassWithEnd : List ObserverOf → PassEnd → List Received → Type 0
IsPassWithEnd observers PassEnd.Markless said = IsPass observers None said
IsPassWithEnd observers PassEnd.Marked said = (x : Cell) × IsPass observers (Some x) said
IsPassWithEnd observers PassEnd.Due said = IsPassDue observers said
