-- The answer to `get`, byte by byte.
use Rattle.std.specs.Prelude.{◌≡◌, ℕ, List, ◌++◌, Option, Some, None, codes, decimal}
use Rattle.hex.specs.Hex.{encode_lower}
use Rattle.pb_answers.specs.Words.{Cell, Content, Newest, StateOf, trimmed}
use Rattle.pb_answers.specs.Seen.{IsSeenIn}

-- what a write left: a value in hexadecimal digits, without the zeros at its end, or nothing. No data cell has a stamp, which
-- says no more than a deletion
abbrev pub left_by : Content → List ℕ
left_by (Content.Value bytes) = codes "value " ++ encode_lower (trimmed bytes)
left_by Content.Deleted = codes "deleted"
left_by (Content.Stamp t) = codes "deleted"

-- the line for what a snapshot has of a cell
abbrev pub value_line : Option Newest → List ℕ
value_line None = codes "absent\n"
value_line (Some n) = left_by n.content ++ (codes " commit " ++ (decimal n.commit.0 ++ codes "\n"))

-- the answer to `get`: the line for what the snapshot at the table's clock has of x
pub record IsValueAnswer (state : StateOf) (x : Cell) (text : List ℕ) : Type 0 where
  pub newest : Option Newest
  pub seen : IsSeenIn state.entries state.clock x newest
  pub line : text ≡ value_line newest
