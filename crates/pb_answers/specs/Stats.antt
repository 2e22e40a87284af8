-- The answer to `stats`, byte by byte. The functions of src/stats.rt cite these.
use Rattle.std.specs.Prelude.{ℕ, List, ◌++◌, codes, decimal}
use Rattle.std.specs.List.{flat_map, zip}
use Rattle.std.specs.FinMap as map
use Rattle.pb_keeper.specs.declared.stats.ObserverStats.{ObserverStats}
use Rattle.pb_answers.specs.Words.{ObserverOf, StateOf}

-- the line of an observer of this name: how many of its runs are committed, how many of these had a result other than 0, how
-- many were in conflict, how many reads its programs asked for, and how many instructions they did
abbrev pub stats_line : List ℕ → ObserverStats → List ℕ
stats_line name n = codes "stats " ++ (name ++ (codes " runs " ++ (decimal n.runs ++ (codes " nonzero " ++ (decimal n.nonzero ++ (codes " conflicts " ++ (decimal n.conflicts ++ (codes " asks " ++ (decimal n.asks ++ (codes " instructions " ++ (decimal n.instructions ++ codes "\n")))))))))))

-- a line for each observer that has numbers, in the order of the observers
abbrev pub stats_lines : List ObserverOf → List ObserverStats → List ℕ
stats_lines observers stats = flat_map (λ p. stats_line p.0.name p.1) (zip observers stats)

-- the answer to `stats`: these lines, how many bytes the log has, how many entries the table has, and a last line
abbrev pub stats_text : StateOf → List ObserverStats → ℕ → List ℕ
stats_text state stats log = stats_lines state.observers stats ++ (codes "log " ++ (decimal log ++ (codes "\nentries " ++ (decimal (map.len state.entries) ++ codes "\nend\n"))))
