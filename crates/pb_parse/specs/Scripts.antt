-- What a whole script is read as.
use Rattle.std.specs.Prelude.{◌≡◌, ◌≤◌, true, length, All}
use Rattle.pb_parse.specs.Words.{MAX_CHANGES, is_batch}
use Rattle.pb_parse.specs.ScriptLines.{Batches}

-- no more transactions than a script may have, each of them a batch
abbrev pub AreBatches : Batches → Type 0
AreBatches batches = (length batches ≤ MAX_CHANGES) × All (λ batch. is_batch batch ≡ true) batches
