-- The operations of a script, as they are written: by the write that is meant, character for character, so that no
-- looser reading meets them.
use Rattle.std.specs.Prelude.{◌≡◌, ◌-◌, ◌^◌, ◌<◌, ◌≤◌, ℕ, List, [], ◌∷◌, ◌++◌, length, codes, replicate, decimal}
use Rattle.std.specs.List.{join_with_byte}
use Rattle.hex.specs.Hex.{IsBytes, encode_lower}
use Rattle.law_texts.specs.Words.{COLUMNS, Row, Cell, Content}

-- Some of the first bytes of a value of 32, in lower-case hexadecimal, two digits for a byte; the bytes after them are zero.
pub record AreDigitsOf (value digits : List ℕ) : Type 0 where
  pub bytes : List ℕ
  pub fit : IsBytes bytes
  pub some : 1 ≤ length bytes
  pub few : length bytes ≤ 32
  pub written : digits ≡ encode_lower bytes
  pub padded : value ≡ bytes ++ replicate (32 - length bytes) 0

-- a row of 64 bits, and one of the columns
abbrev pub AreInRange : Row → ℕ → Type 0
AreInRange row column = (row.0 < 2 ^ 64) × (column < COLUMNS)

-- the text of an operation: its words with one blank between them
abbrev pub IsOperationOf : Cell → Content → List ℕ → Type 0
IsOperationOf (Cell.Data row column) (Content.Value value) text =
    AreInRange row column × (digits : List ℕ) × AreDigitsOf value digits
    × (text ≡ join_with_byte 32 (codes "put" ∷ decimal row.0 ∷ decimal column ∷ digits ∷ []))
IsOperationOf (Cell.Data row column) Content.Deleted text =
    AreInRange row column × (text ≡ join_with_byte 32 (codes "del" ∷ decimal row.0 ∷ decimal column ∷ []))
IsOperationOf (Cell.Data row column) (Content.Stamp time) text = ⊥
IsOperationOf (Cell.Ack observer row column) content text = ⊥
