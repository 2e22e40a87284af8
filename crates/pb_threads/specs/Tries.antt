-- The changes of one worker: each is tried until a try of it commits, or so often as may be.
use Rattle.std.specs.Prelude.{◌≡◌, ℕ, ◌+◌, ◌*◌, ◌<◌, ◌≤◌, Bool, true, false, ◌||◌, List, [], ◌∷◌, ◌++◌, length, Option, Some, None, slice_get}
use Rattle.pb_threads.specs.Words.{Ts, Writes, Answer, Received, Outcome, SeatOf, ChangeOf, new_change, Converses, IsWholeChange, IsOfParts, EndsIn, IsNextOf}
use Rattle.pb_threads.specs.declared.tries.TheConstants.{MAX_TRIES}
use Rattle.pb_threads.specs.Gains.{Gains}

-- the outcome of a committed transaction, at whatever timestamp
abbrev pub is_commit_outcome : Outcome → Bool
is_commit_outcome (Outcome.Committed c) = true
is_commit_outcome _ = false

-- one that isn't over doesn't count as committed
abbrev pub committed_in : Option Outcome → Bool
committed_in None = false
committed_in (Some o) = is_commit_outcome o

-- the transaction was committed
abbrev pub is_commit : Answer → Bool
is_commit Answer.Committed = true
is_commit _ = false

-- the transaction was committed by then, whether its other cells were or not
abbrev pub has_commit : List Received → Bool
has_commit [] = false
has_commit (r ∷ rs) = is_commit r.answer || has_commit rs

-- what the seat gained led the change to where it stands, and shows whether the transaction is committed
abbrev pub HasTriedTo : Writes → SeatOf → SeatOf → ChangeOf → Bool → Type 0
HasTriedTo batch a b job committed = Gains (λ said. Converses (new_change batch) said job × (committed ≡ has_commit said)) a b

-- a whole try of a change of this batch, and whether it committed
pub record IsTry (batch : Writes) (committed : Bool) (said : List Received) : Type 0 where
  pub start : Ts
  pub outcome : Outcome
  pub whole : IsWholeChange batch start said outcome
  pub ended : is_commit_outcome outcome ≡ committed

-- the next try, which didn't commit
abbrev pub IsNextVain : Writes → ℕ → ℕ → List Received → Type 0
IsNextVain batch n m said = IsNextOf (λ i part. IsTry batch false part) n m said

-- so many tries, none of which committed
abbrev pub AreVain : Writes → ℕ → List Received → Type 0
AreVain batch n said = IsOfParts (IsNextVain batch) 0 n said

-- tries of which the last committed
abbrev pub IsDone : Writes → List Received → Type 0
IsDone batch said = EndsIn (IsNextVain batch) (λ count last. (count < MAX_TRIES) × IsTry batch true last) 0 said

-- all tries of a change, and whether one committed
abbrev pub AreTries : Writes → Bool → List Received → Type 0
AreTries batch true said = IsDone batch said
AreTries batch false said = AreVain batch MAX_TRIES said

-- the tries of the change that comes after so many of one of n workers, its first at this number and each later one n further
pub record IsNextTried (batches : List Writes) (n first : ℕ) (done now : List Bool) (said : List Received) : Type 0 where
  pub batch : Writes
  pub there : slice_get batches (first + length done * n) ≡ Some batch
  pub committed : Bool
  pub now_is : now ≡ done ++ committed ∷ []
  pub tries : AreTries batch committed said

-- its first changes, with whether each committed
abbrev pub AreTried : List Writes → ℕ → ℕ → List Bool → List Received → Type 0
AreTried batches n first done said = IsOfParts (IsNextTried batches n first) [] done said

-- so many flags are of all of them
abbrev pub AreSoMany : List Writes → ℕ → ℕ → List Bool → Type 0
AreSoMany batches n first done = length batches ≤ first + length done * n

-- all of them
pub record AreAllTried (batches : List Writes) (n first : ℕ) (done : List Bool) (said : List Received) : Type 0 where
  pub tried : AreTried batches n first done said
  pub all : AreSoMany batches n first done
