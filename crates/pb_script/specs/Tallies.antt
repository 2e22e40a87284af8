-- How often each observer ran, counted as members of the history and not as entries. The report's lines print it.
use Rattle.std.specs.Prelude.{◌≡◌, ℕ, ◌+◌, List, [], ◌∷◌}
use Rattle.pb_script.specs.Words.{ObserverOf, Entry, IsRunCount}
use Rattle.pb_script.specs.ReportLines.{Tallies}

-- an observer's name, with the number of its committed runs
abbrev pub IsTally : List ObserverOf → List Entry → ℕ → ObserverOf → List ℕ × ℕ → Type 0
IsTally observers journal o observer r = (r.0 ≡ observer.name) × IsRunCount observers journal o r.1

-- those of these observers, of which the first is that of number o
abbrev pub AreTallies : List ObserverOf → List Entry → ℕ → List ObserverOf → Tallies → Type 0
AreTallies observers journal o [] rs = rs ≡ []
AreTallies observers journal o (x ∷ xs) [] = ⊥
AreTallies observers journal o (x ∷ xs) (r ∷ rs) = IsTally observers journal o x r × AreTallies observers journal (o + 1) xs rs
