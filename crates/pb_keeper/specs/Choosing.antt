-- Which observers of a new list an old one has.
use Rattle.std.specs.Prelude.{◌≡◌, ℕ, List, [], ◌∷◌, ◌++◌, Some, slice_get}
use Rattle.pb_keeper.specs.Words.{ObserverOf}

-- the list has it at some place
abbrev pub IsOneOf : List ObserverOf → ObserverOf → Type 0
IsOneOf observers o = (p : ℕ) × (slice_get observers p ≡ Some o)

-- why observers aren't chosen of a list: it lacks one of them, or two of them are the same
pub data WhyNotChosen (old new : List ObserverOf) : Type 0 where
  lacks_one : (o : ObserverOf) → IsOneOf new o → (IsOneOf old o → ⊥) → WhyNotChosen old new
  one_twice : (m n : ℕ) (o : ObserverOf) → (m ≡ n → ⊥) → slice_get new m ≡ Some o → slice_get new n ≡ Some o → WhyNotChosen old new

-- those of the new list that the old one has too, and the others, both in their order
pub data IsSplit (old : List ObserverOf) : List ObserverOf → List ObserverOf → List ObserverOf → Type 0 where
  nothing : IsSplit old [] [] []
  known_one : (new known others : List ObserverOf) (o : ObserverOf) → IsSplit old new known others → IsOneOf old o → IsSplit old (new ++ o ∷ []) (known ++ o ∷ []) others
  other_one : (new known others : List ObserverOf) (o : ObserverOf) → IsSplit old new known others → (IsOneOf old o → ⊥) → IsSplit old (new ++ o ∷ []) known (others ++ o ∷ [])
