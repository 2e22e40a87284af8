-- The change record: row, column, start and commit of the change, whether it is a value, the acknowledged
-- timestamp, each as 8 bytes with the lowest first, and the value.
use Rattle.std.specs.Prelude.{ℕ, List, ◌++◌, replicate, take, drop}
use Rattle.std.specs.Int.{from_le_bytes, to_le_bytes}
use mir.Syntax.{w64}
use Rattle.pb_base.specs.declared.cell.Cell.{Cell}
use Rattle.pb_base.specs.declared.content.Content.{Content}
use Rattle.pb_base.specs.declared.content.Revision.{Revision}
use Rattle.pb_base.specs.Cell.{row_of, column_of}

-- a number as eight bytes, the lowest first, as a load of 64 bits takes it
abbrev pub word_bytes : ℕ → List ℕ
word_bytes n = to_le_bytes w64 n

-- 1 for a value, else 0
abbrev pub present : Content → ℕ
present (Content.Value v) = 1
present Content.Deleted = 0
present (Content.Stamp t) = 0

-- zeros where there is no value
abbrev pub value_bytes : Content → List ℕ
value_bytes (Content.Value v) = v
value_bytes Content.Deleted = replicate 32 0
value_bytes (Content.Stamp t) = replicate 32 0

-- the 80 bytes of version 1, for a version of a cell and the timestamp acknowledged before
abbrev pub record_of : Cell → Revision → ℕ → List ℕ
record_of x found acknowledged =
    word_bytes (row_of x).0 ++ (word_bytes (column_of x) ++ (word_bytes found.start.0 ++ (word_bytes found.commit.0 ++
    (word_bytes (present found.content) ++ (word_bytes acknowledged ++ value_bytes found.content)))))

-- the word of 8 bytes at a place
abbrev pub word_at : List ℕ → ℕ → ℕ
word_at bytes n = from_le_bytes w64 (take 8 (drop n bytes))

-- row and column in the bytes of a record
abbrev pub recorded_row : List ℕ → ℕ
recorded_row bytes = word_at bytes 0

-- the column; that it is 0 to 15 is the invariant of a record
abbrev pub recorded_column : List ℕ → ℕ
recorded_column bytes = word_at bytes 8
