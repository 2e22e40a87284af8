-- Tablets side by side, each with the rows from its first up to the next one's first. They are seen by what they
-- contain, so that nothing here depends on a sort of tablet. The invariant of `Table` cites them.
use Rattle.std.proofs.Common.{zero, suc, ◌≡◌, ℕ, ◌<◌, ◌≤◌, Bool, true, List, [], ◌∷◌, ◌++◌, Option, None, Some, false, nat_lt, ◌&&◌, ◌==◌, if◌then◌else◌}
use Rattle.std.specs.FinMap as map
use Rattle.pb_store.specs.Words.{Cell, Row, Reason, Refusal, refusal_by, memory_refusal, row_of}
use Rattle.pb_store.specs.declared.slot.Slot.{Slot}
use Rattle.pb_store.specs.declared.slot.Item.{Item}
use Rattle.pb_store.specs.Contents.{Contents, is_nothing}

-- the first row, and what the tablet there contains
abbrev pub Tile : Type 0
Tile = ℕ × Contents

-- tablets with their first rows, by what they contain
abbrev pub tiles_of : {T : Type 0} → (T → Contents) → List (Row × T) → List Tile
tiles_of c [] = []
tiles_of c (part ∷ parts) = (part.0.0, c part.1) ∷ tiles_of c parts

-- the entries of all tiles, one tile after another
abbrev pub all_entries : List Tile → List (Slot × Item)
all_entries [] = []
all_entries (tile ∷ tiles) = map.entries tile.1.entries ++ all_entries tiles

-- the marks of all tiles, one tile after another
abbrev pub all_marks : List Tile → List (Cell × Unit {0})
all_marks [] = []
all_marks (tile ∷ tiles) = map.entries tile.1.marks ++ all_marks tiles

-- what they contain together, kept folded, since most proofs need only look-ups in it
unfoldable pub joined : List Tile → Contents
joined tiles = record { entries = map.from_entries (all_entries tiles); marks = map.from_entries (all_marks tiles) }

-- the row comes before all of them; the next one's first row is enough, since first rows rise
abbrev pub IsBelow : ℕ → List Tile → Type 0
IsBelow row [] = Unit {0}
IsBelow row (tile ∷ tiles) = row < tile.0

-- what the tile contains is of rows from its first up to the next tile's
pub record IsTile (tile : Tile) (tiles : List Tile) : Type 0 where
  pub rises : IsBelow tile.0 tiles
  pub from_first : (slot : Slot) → map.contains_key tile.1.entries slot ≡ true → tile.0 ≤ (row_of slot.cell).0
  pub before_next : (slot : Slot) → map.contains_key tile.1.entries slot ≡ true → IsBelow (row_of slot.cell).0 tiles
  pub marks_from_first : (cell : Cell) → map.contains_key tile.1.marks cell ≡ true → tile.0 ≤ (row_of cell).0
  pub marks_before_next : (cell : Cell) → map.contains_key tile.1.marks cell ≡ true → IsBelow (row_of cell).0 tiles

-- each tile keeps to its rows
abbrev pub AreTiled : List Tile → Type 0
AreTiled [] = Unit {0}
AreTiled (tile ∷ tiles) = IsTile tile tiles × AreTiled tiles

-- there is a first tile, and its first row is 0
abbrev pub BeginAtZero : List Tile → Type 0
BeginAtZero [] = ⊥
BeginAtZero (tile ∷ tiles) = tile.0 ≡ 0

-- the tiles share out all rows
pub record IsTiling (tiles : List Tile) : Type 0 where
  pub zero_first : BeginAtZero tiles
  pub tiled : AreTiled tiles

-- tile i is the one of the row
abbrev pub IsPlace : List Tile → ℕ → ℕ → Type 0
IsPlace [] i row = ⊥
IsPlace (tile ∷ tiles) zero row = (tile.0 ≤ row) × IsBelow row tiles
IsPlace (tile ∷ tiles) (suc i) row = IsPlace tiles i row

-- tile i is the first that may have a cell after the given one
abbrev pub IsStart : List Tile → ℕ → Option Cell → Type 0
IsStart tiles i None = i ≡ 0
IsStart tiles i (Some cell) = IsPlace tiles i (row_of cell).0

-- whether the first rows rise from one above low
abbrev pub rise : ℕ → List Tile → Bool
rise low [] = true
rise low (tile ∷ tiles) = nat_lt low tile.0 && rise tile.0 tiles

-- whether they rise from 0
abbrev pub rise_from_zero : List Tile → Bool
rise_from_zero [] = false
rise_from_zero (tile ∷ tiles) = (tile.0 == 0) && rise tile.0 tiles

-- whether no tile contains anything
abbrev pub all_nothing : List Tile → Bool
all_nothing [] = true
all_nothing (tile ∷ tiles) = is_nothing tile.1 && all_nothing tiles

-- why tablets make no table, if they make none: there is none, rows that don't rise from 0, one that isn't empty
abbrev pub table_reason : List Tile → Option Reason
table_reason [] = Some Reason.NoTablet
table_reason (tile ∷ tiles) =
    if rise_from_zero (tile ∷ tiles) then (if all_nothing (tile ∷ tiles) then None else Some Reason.NotEmpty) else Some Reason.RowsDontRise

-- why a tablet with these contents isn't put in this place of so many, if it isn't
abbrev pub swap_reason : Contents → ℕ → ℕ → Option Reason
swap_reason c place places = if is_nothing c then (if nat_lt place places then None else Some Reason.NoSuchPlace) else Some Reason.NotEmpty

-- what a caller gets for this reason, and of want of memory where there is none
abbrev pub refusal_or_want : Option Reason → Refusal
refusal_or_want None = memory_refusal
refusal_or_want (Some why) = refusal_by why

-- this refusal gives that reason, or want of memory, for a table of some number of places
pub record TellsSwapReason (c : Contents) (place : ℕ) (refusal : Refusal) : Type 0 where
  pub places : ℕ
  pub some : 0 < places
  pub told : refusal ≡ refusal_or_want (swap_reason c place places)
