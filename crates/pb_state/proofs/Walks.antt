-- A walk along marked cells.
use Rattle.std.proofs.Common.{zero, suc, ℕ, List, [], ◌∷◌, Option}
use Rattle.pb_state.specs.Words.{Cell, ComesAfter}

-- the first so many are not after the cell, and the others are
abbrev pub IsWalked : Option Cell → List (Cell × Unit {0}) → ℕ → Type 0
IsWalked last [] zero = Unit {0}
IsWalked last [] (suc n) = ⊥
IsWalked last (e ∷ es) zero = ComesAfter last e.0
IsWalked last (e ∷ es) (suc n) = (ComesAfter last e.0 → ⊥) × IsWalked last es n
