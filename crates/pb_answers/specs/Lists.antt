-- The answer to `list`: the report of a table, and a last line.
use Rattle.std.specs.Prelude.{◌≡◌, ℕ, ◌+◌, List, [], ◌∷◌, ◌++◌, codes, slice_index_or}
use Rattle.std.specs.FinMap as map
use Rattle.pb_keeper.specs.Stats.{KeptTable, no_runs}
use Rattle.pb_answers.specs.Words.{ObserverOf, Tallies, IsReportOf, lock_count}
use Rattle.pb_answers.specs.Seen.{IsSeenIn}

-- the names of observers, of which the first is that of number o, each with what this gives for its number
abbrev pub tallies_by : (ℕ → ℕ) → ℕ → List ObserverOf → Tallies
tallies_by runs o [] = []
tallies_by runs o (x ∷ xs) = (x.name, runs o) ∷ tallies_by runs (o + 1) xs

-- the observers of a table, each with the number of its committed runs
abbrev pub tallies_in : KeptTable → Tallies
tallies_in table = tallies_by (λ o. (slice_index_or table.stats o no_runs).runs) 0 table.state.observers

-- the answer to `list`: the report of what the snapshot at the table's clock has, of the committed runs, and of the marks and
-- locks that stand, and a last line
pub record IsListAnswer (table : KeptTable) (text : List ℕ) : Type 0 where
  pub report : List ℕ
  pub reported : IsReportOf (IsSeenIn table.state.entries table.state.clock) (tallies_in table) (map.len table.state.marks) (lock_count table.state.entries) report
  pub ended : text ≡ report ++ codes "end\n"
