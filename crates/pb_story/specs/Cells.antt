-- Cells, and what they hold, in words. As in a schedule, an observer has its name and not its number, so each text takes the
-- list of observers.
use Rattle.std.specs.Prelude.{ℕ, List, [], ◌++◌, codes, Option, Some, None, slice_get, flat_map, decimal}
use Rattle.hex.specs.Hex.{encode_lower}
use Rattle.pb_story.specs.Words.{Writes, Row, Cell, Content, ObserverOf, trimmed}

-- an observer's name, and no letters where there is no observer
abbrev pub name_told : Option ObserverOf → List ℕ
name_told None = []
name_told (Some x) = x.name

-- the name of the observer of this number, nothing where there is none
abbrev pub observer_name : List ObserverOf → ℕ → List ℕ
observer_name observers o = name_told (slice_get observers o)

-- a place as scripts name it
abbrev pub row_and_column : Row → ℕ → List ℕ
row_and_column row column = decimal row.0 ++ (codes " " ++ decimal column)

-- row and column, and before those of an acknowledgment its observer
abbrev pub cell_text : List ObserverOf → Cell → List ℕ
cell_text observers (Cell.Data row column) = row_and_column row column
cell_text observers (Cell.Ack o row column) = codes "ack " ++ (observer_name observers o ++ (codes " " ++ row_and_column row column))

-- a value without the zeros at its end, as a report has it
abbrev pub content_text : Content → List ℕ
content_text (Content.Value bytes) = codes "value " ++ encode_lower (trimmed bytes)
content_text Content.Deleted = codes "deleted"
content_text (Content.Stamp t) = codes "stamp " ++ decimal t.0

-- a write after its semicolon: the cell and what is left there
abbrev pub write_text : List ObserverOf → Cell × Content → List ℕ
write_text observers w = codes "; " ++ (cell_text observers w.0 ++ (codes " " ++ content_text w.1))

-- in order, each after a semicolon
abbrev pub writes_text : List ObserverOf → Writes → List ℕ
writes_text observers ws = flat_map (write_text observers) ws
