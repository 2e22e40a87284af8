-- The last timestamp that was given out (OSDI 2010, section 2.3).
use Rattle.std.specs.Prelude.{◌≡◌, ℕ, ◌≤◌, List, [], ◌∷◌}
use Rattle.pb_history.specs.History.{Has}

-- the greatest of those that a journal gave out, or the clock as opened where it gave out none
abbrev pub IsLastGiven : ℕ → List ℕ → ℕ → Type 0
IsLastGiven clock [] last = last ≡ clock
IsLastGiven clock (t ∷ ts) last = Has (t ∷ ts) last × ((u : ℕ) → Has (t ∷ ts) u → u ≤ last)
