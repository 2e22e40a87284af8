-- Pairs in the order of their numbers, as transactions stand in their list, and what a look-up of one returns.
use Rattle.std.specs.Prelude.{◌≡◌, ℕ, ◌<◌, List, length, slice_index_or}

-- each number is above those before it
pub record StartsRise {X : Type 0} (es : List (ℕ × X)) : Type 0 where
  pub at : (i j : ℕ) (d : ℕ × X) → i < j → j < length es → (slice_index_or es i d).0 < (slice_index_or es j d).0

-- the pair at i has this number
pub record IsStartAt {X : Type 0} (es : List (ℕ × X)) (start i : ℕ) : Type 0 where
  pub within : i < length es
  pub here : (d : ℕ × X) → (slice_index_or es i d).0 ≡ start

-- no pair has it
pub record IsNoStart {X : Type 0} (es : List (ℕ × X)) (start : ℕ) : Type 0 where
  pub none : (i : ℕ) (d : ℕ × X) → i < length es → (slice_index_or es i d).0 ≡ start → ⊥
