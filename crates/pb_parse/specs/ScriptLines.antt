-- A line, and a text of lines: each operation after those before it in its line, and each line after those before it,
-- up to the first at fault. `parse_script` cites it, and so do all laws of scripts.
use Rattle.std.specs.Prelude.{ℕ, ◌&&◌, ◌==◌, nat_le, if◌then◌else◌, is_some, List, [], ◌∷◌, ◌++◌, length, Option, Some, None, Result, Ok, Err}
use denote.Ref.{Bor}
use Rattle.std.specs.List.{onto_first}
use Rattle.pb_parse.specs.Words.{MAX_CELLS, MAX_CHANGES, Writes, content_in, ◌>>=◌, in_turn, is_skipped, lines_of, in_lines}
use Rattle.pb_parse.specs.declared.script.code.ScriptCode.{ScriptCode}
use Rattle.pb_parse.specs.Codes.{script_code}
use Rattle.pb_parse.specs.ScriptWords.{operation}

-- what stands between joints, each of them `; `
abbrev pub cut : List ℕ → List (List ℕ)
cut [] = [] ∷ []
cut (b ∷ []) = (b ∷ []) ∷ []
cut (b ∷ c ∷ bs) = if (b == 59) && (c == 32) then [] ∷ cut bs else onto_first b (cut (c ∷ bs))

-- the operations of what is left of a line, after a joint
abbrev pub operations_left : Option (Bor (List ℕ)) → List (List ℕ)
operations_left None = []
operations_left (Some line) = cut line.now

-- the writes of a line so far, with one more operation
unfoldable pub with_operation : Writes → List ℕ → Result Writes ScriptCode
with_operation before text = do
  w ← operation text
  if is_some (content_in before w.0) then Err ScriptCode.Twice else if nat_le MAX_CELLS (length before) then Err ScriptCode.Seventeenth else Ok (before ++ w ∷ [])

-- the transaction that a line is: what its operations write, in their order
abbrev pub batch_of : List ℕ → Result Writes ScriptCode
batch_of line = in_turn (λ _. with_operation) 0 [] (cut line)

-- what a script is read as: of each transaction what it writes, in the order of the lines
abbrev pub Batches : Type 0
Batches = List Writes

-- the transactions so far, with what one more line adds
unfoldable pub with_line : Batches → List ℕ → Result Batches ScriptCode
with_line before line = if is_skipped line then Ok before else do
  batch ← batch_of line
  if nat_le MAX_CHANGES (length before) then Err ScriptCode.TooMany else Ok (before ++ batch ∷ [])

-- the transactions of a text, or the line and the code of its fault; skipped lines are counted too, since a fault is
-- reported by the line's number
abbrev pub script_of : List ℕ → Result Batches (ℕ × ℕ)
script_of text = in_lines script_code with_line 0 [] (lines_of text)
