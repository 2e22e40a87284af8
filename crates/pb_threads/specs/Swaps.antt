-- Spare tablets, swapped in one after another.
use Rattle.std.specs.Prelude.{◌≡◌, ℕ, List, ◌∷◌, ◌++◌, map, Option, Some, None, All}
use Rattle.pb_threads.specs.Words.{Refusal, Contents, swap_reason, refusal_or_want}

-- its place, and what the tablet contains
abbrev pub Spare : Type 0
Spare = ℕ × Contents

-- a spare is seen as its place and what its tablet contains
abbrev pub spares_of : {T : Type 0} → (T → Contents) → List (ℕ × T) → List Spare
spares_of {T} c spares = map (λ (s : ℕ × T). (s.0, c s.1)) spares

-- what the swap of a spare came to, in a table of so many tablets: it was taken, so it was empty and its place is one of
-- the table, or it was refused for its reason, and where there is none for want of memory
abbrev pub IsSwapped : ℕ → Spare → Option Refusal → Type 0
IsSwapped places spare None = swap_reason spare.1 spare.0 places ≡ None
IsSwapped places spare (Some r) = r ≡ refusal_or_want (swap_reason spare.1 spare.0 places)

-- each of them was taken
abbrev pub AreSparesTaken : ℕ → List Spare → Type 0
AreSparesTaken places spares = All (λ (s : Spare). IsSwapped places s None) spares

-- the first that was refused, and what came before it
pub record FirstRefused (places : ℕ) (spares : List Spare) (r : Refusal) : Type 0 where
  pub before : List Spare
  pub spare : Spare
  pub after : List Spare
  pub spares_are : spares ≡ before ++ spare ∷ after
  pub taken : AreSparesTaken places before
  pub refused : IsSwapped places spare (Some r)

-- they were swapped in their order, and this is the first refusal among them, if there was one
abbrev pub AreSwapped : ℕ → List Spare → Option Refusal → Type 0
AreSwapped places spares None = AreSparesTaken places spares
AreSwapped places spares (Some r) = FirstRefused places spares r
