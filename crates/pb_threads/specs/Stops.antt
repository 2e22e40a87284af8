-- Where a worker stopped: just a beginning of what it was to ask, and the step that it asked next.
use Rattle.std.specs.Prelude.{◌≡◌, ◌+◌, ◌*◌, ◌<◌, ◌⊎◌, ℕ, Bool, false, List, [], ◌∷◌, ◌++◌, length, Option, Some, None, slice_get}
use Rattle.pb_threads.specs.Words.{Refusal, Writes, Step, Received, new_change, change_job, IsSomeChange, EndsIn, HasAsked}
use Rattle.pb_threads.specs.declared.tries.TheConstants.{MAX_TRIES}
use Rattle.pb_threads.specs.Gains.{OpeningOf, IsSeatStop}
use Rattle.pb_threads.specs.Tries.{has_commit, IsNextVain, IsNextTried}

-- it was begun so, and left at the step that came next, or for want of memory
pub record Stops (opens : Option OpeningOf) (seat : ℕ) (IsBegun : Option Step → List Received → Type 0) (r : Refusal) (said : List Received) : Type 0 where
  pub next : Option Step
  pub begun : IsBegun next said
  pub stop : IsSeatStop opens seat next r

-- it is whole, or, with a refusal, just a beginning
abbrev pub IsUpTo : Option OpeningOf → ℕ → (List Received → Type 0) → (Option Step → List Received → Type 0) → Option Refusal → List Received → Type 0
IsUpTo opens seat Whole IsBegun None said = Whole said
IsUpTo opens seat Whole IsBegun (Some r) said = Stops opens seat IsBegun r said

-- a try was begun, and whether its transaction was committed by then
pub record IsTryBegun (batch : Writes) (committed : Bool) (next : Option Step) (said : List Received) : Type 0 where
  pub committed_is : committed ≡ has_commit said
  pub change : HasAsked change_job (IsSomeChange batch) (new_change batch) next said

-- tries were in vain, and the next was begun
abbrev pub AreTriesBegun : Writes → Bool → Option Step → List Received → Type 0
AreTriesBegun batch committed next said = EndsIn (IsNextVain batch) (λ count part. (count < MAX_TRIES) × IsTryBegun batch committed next part) 0 said

-- After the changes of these flags the next was begun, or not yet. `done` is these flags, or has one more: whether the transaction of
-- the last try of this change was committed by then.
pub record IsChangeBegun (batches : List Writes) (n first : ℕ) (done : List Bool) (next : Option Step) (flags : List Bool) (said : List Received) : Type 0 where
  pub batch : Writes
  pub there : slice_get batches (first + length flags * n) ≡ Some batch
  pub committed : Bool
  pub tries : AreTriesBegun batch committed next said
  pub done_is : (done ≡ flags ++ committed ∷ []) ⊎ ((done ≡ flags) × (committed ≡ false))

-- changes were tried, and the next was begun
abbrev pub AreChangesBegun : List Writes → ℕ → ℕ → List Bool → Option Step → List Received → Type 0
AreChangesBegun batches n first done next said = EndsIn (IsNextTried batches n first) (IsChangeBegun batches n first done next) [] said
