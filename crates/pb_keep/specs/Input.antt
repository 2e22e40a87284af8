-- The lines of an input, and how they are read.
use Rattle.std.specs.Prelude.{◌≡◌, ℕ, ◌<◌, Bool, true, false, ◌==◌, nat_lt, if◌then◌else◌, List, [], ◌∷◌, ◌++◌, length, Option, OnSome, Result, Ok, Err}
use Rattle.std.specs.List.{list_any}
use Rattle.std.specs.Io.KnownBytes.{Consumes, IsAtEnd}
use Rattle.pb_requests.specs.declared.parse.TheConstants.{MAX_LINE}
use Rattle.pb_keep.specs.declared.lines.Line.{Line}
use Rattle.pb_keep.specs.declared.lines.Piece.{Piece}
use Rattle.pb_keep.specs.declared.source.InputFault.{InputFault}

abbrev pub is_newline : ℕ → Bool
is_newline b = b == 10

-- all of these bytes are of one line
abbrev pub HasNoNewline : List ℕ → Type 0
HasNoNewline bytes = list_any is_newline bytes ≡ false

-- what an input had left began with this line and its newline, which were taken
pub record IsNextLine (line : List ℕ) (old new : Option (List ℕ)) : Type 0 where
  pub whole : HasNoNewline line
  pub read : Consumes old new (line ++ 10 ∷ [])

-- An input has no line left: what it has has no newline, and then it ends. That is no line, since nobody knows how it would have gone on.
pub record HasNoLine (input : Option (List ℕ)) : Type 0 where
  pub front : List ℕ
  pub last : Option (List ℕ)
  pub of_line : HasNoNewline front
  pub read : Consumes input last front
  pub ended : IsAtEnd last

-- what was read: a line, one that is too long and isn't held, or the end, where none is left
abbrev pub IsLineRead : Line → List ℕ → Option (List ℕ) → Option (List ℕ) → Type 0
IsLineRead Line.Read line old new = IsNextLine line old new
IsLineRead Line.TooLong line old new = (line ≡ []) × (long : List ℕ) × (MAX_LINE < length long) × IsNextLine long old new
IsLineRead Line.End line old new = HasNoLine old

-- a line isn't read since a read failed
abbrev pub is_of_reader : {T : Type 0} → Result T InputFault → Bool
is_of_reader (Ok x) = false
is_of_reader (Err (InputFault.NoMemory e)) = false
is_of_reader (Err InputFault.Reader) = true

-- the front of a line at most was taken, and nothing after it
abbrev pub TakesPartOfLine : Option (List ℕ) → Option (List ℕ) → Type 0
TakesPartOfLine old new = (front : List ℕ) × HasNoNewline front × Consumes old new front

-- ---- a line as its pieces come

-- what is held of a line of which this front was taken: all of it, or nothing once it is too long
pub record IsHeldFront (front line : List ℕ) (is_long : Bool) : Type 0 where
  pub long : is_long ≡ nat_lt MAX_LINE (length front)
  pub kept : line ≡ (if is_long then [] else front)

-- whatever front was held before, it is held now with these bytes after it
abbrev pub HoldsMore : List ℕ → List ℕ → Bool → List ℕ → Bool → Type 0
HoldsMore more before was_long after is_long = (front : List ℕ) → IsHeldFront front before was_long → IsHeldFront (front ++ more) after is_long

-- what was taken of an input so far is the front of a line, and is held
pub record IsReadSoFar (old now : Option (List ℕ)) (line : List ℕ) (is_long : Bool) : Type 0 where
  pub front : List ℕ
  pub of_line : HasNoNewline front
  pub read : Consumes old now front
  pub held : IsHeldFront front line is_long

-- what was taken of an input: these bytes, the newline after the last ones, or nothing at its end
abbrev pub IsPiece : Piece → List ℕ → Option (List ℕ) → Option (List ℕ) → Type 0
IsPiece Piece.Part bytes old new = Consumes old new bytes
IsPiece Piece.Last bytes old new = Consumes old new (bytes ++ 10 ∷ [])
IsPiece Piece.End bytes old new = (bytes ≡ []) × Consumes old new [] × OnSome old (IsAtEnd new)

-- a piece was taken of an input, and its bytes are held
pub record TakesPiece (piece : Piece) (old new : Option (List ℕ)) (before : List ℕ) (was_long : Bool) (after : List ℕ) (is_long : Bool) : Type 0 where
  pub bytes : List ℕ
  pub of_line : HasNoNewline bytes
  pub taken : IsPiece piece bytes old new
  pub held : HoldsMore bytes before was_long after is_long

-- these lines were read, one after the other
pub data AreLinesRead (old : Option (List ℕ)) : List (List ℕ) → Option (List ℕ) → Type 0 where
  none : AreLinesRead old [] old
  one_more : (lines : List (List ℕ)) (line : List ℕ) (between new : Option (List ℕ)) → AreLinesRead old lines between → IsNextLine line between new → AreLinesRead old (lines ++ line ∷ []) new
