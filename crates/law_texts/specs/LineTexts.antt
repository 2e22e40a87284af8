-- The lines of a script, as they are written: by the writes of a transaction, and not by how a line is cut.
use Rattle.std.specs.Prelude.{◌≡◌, ◌≢◌, ◌≤◌, ℕ, List, length, codes}
use Rattle.std.specs.List.{AllPairs, AllZip, join_by}
use Rattle.law_texts.specs.Words.{MAX_CELLS, Writes}
use Rattle.law_texts.specs.OperationTexts.{IsOperationOf}

-- the operations of 1 to 16 writes to distinct cells, in their order, with `; ` between them
pub record IsBatchLine (batch : Writes) (line : List ℕ) : Type 0 where
  pub texts : List (List ℕ)
  pub operations : AllZip (λ w text. IsOperationOf w.0 w.1 text) batch texts
  pub joined : line ≡ join_by (λ text. text) (codes "; ") texts
  pub distinct : AllPairs (λ v w. v.0 ≢ w.0) batch
  pub some : 1 ≤ length batch
  pub few : length batch ≤ MAX_CELLS
