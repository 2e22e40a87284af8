-- What a script is read as is no more transactions than it may have, each of them a batch.
use Rattle.std.proofs.Common.{◌≡◌, true, ℕ, List, [], ◌∷◌, map, Ok}
use Rattle.std.specs.List.{AllByRecursion}
use Rattle.std.proofs.lemmas.List.Elements.{All-from_recursion}
use Rattle.pb_parse.specs.Words.{Writes, is_batch, lines_of}
use Rattle.pb_reading.proofs.LinesInTurn.{cons_is_same}
use Rattle.pb_reading.proofs.SkippedLines.{kept}
use Rattle.pb_parse.specs.ScriptLines.{Batches, batch_of, script_of}
use Rattle.pb_parse.specs.Scripts.{AreBatches}
use Rattle.pb_parse.proofs.Batches.{line_is_batch}
use Rattle.pb_parse.proofs.WholeScripts.{lines_are}

-- what lines are read as are batches
each : (ls : List (List ℕ)) (batches : Batches) → map batch_of ls ≡ map (λ batch. Ok batch) batches → AllByRecursion (λ (b : Writes). is_batch b ≡ true) batches
each ls [] h = tt
each [] (b ∷ bs) h = absurd cc
each (l ∷ ls) (b ∷ bs) h =
    let p = cons_is_same (batch_of l) (Ok b) (map batch_of ls) (map (λ batch. Ok batch) bs) h in
    (line_is_batch l b p.0, each ls bs p.1)

pub reads_batches : (text : List ℕ) (batches : Batches) → script_of text ≡ Ok batches → AreBatches batches
reads_batches text batches h =
    let f = lines_are text batches h in
    (f.1, All-from_recursion (λ (b : Writes). is_batch b ≡ true) batches (each (kept (lines_of text)) batches f.0))
