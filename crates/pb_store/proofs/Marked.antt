-- The next mark of all tablets is the first that any of them returns, from the row's on.
use Rattle.std.proofs.Common.{◌≡◌, ℕ, ◌+◌, ◌<◌, Bool, true, false, List, Option, None, Some, ap, ◌∙◌, arith, is_some, length, below_more, inl, inr, Less}
use Rattle.std.proofs.lemmas.Bool.{cases_order, false_from_ne_true as not_marked}
use Rattle.std.specs.FinMap as map
use Rattle.pb_store.specs.Words.{Cell, row_of, cell_cmp, cell_cmp_total}
use Rattle.pb_store.specs.Contents.{ComesAfter, IsNextMark}
use Rattle.pb_store.specs.Tiles.{Tile, AreTiled, IsPlace, IsStart, joined}
use Rattle.pb_store.proofs.Routing.{tile_at}
use Rattle.pb_store.proofs.Halves.{place_of_key, places_rise, find-nowhere}
use Rattle.pb_store.proofs.Joined.{mark_half, marks_kept, marks_joined, mark-joined, cells_by_row}
use Rattle.pb_base.proofs.Logic.{none_is as no_item}

-- tile i has the cell marked
abbrev pub marked : List Tile → ℕ → Cell → Bool
marked tiles i cell = map.contains_key (tile_at tiles i).marks cell

-- no mark of the first tiles comes after the cell
abbrev pub NonePassed : List Tile → Option Cell → ℕ → Type 0
NonePassed tiles after upto = (i : ℕ) → i < upto → (cell : Cell) → ComesAfter after cell → marked tiles i cell ≡ false

-- two cells can't each come before the other
pub not_both_ways : (x y : Cell) → cell_cmp x y ≡ Less → cell_cmp y x ≡ Less → ⊥
not_both_ways x y a b = let turned = cell_cmp_total.antisymm x y in cc

module _ (tiles : List Tile) (tiled : AreTiled tiles) where
  rows_rise : (x y : Cell) (i j : ℕ) → i < length tiles → marked tiles i x ≡ true → IsPlace tiles j (row_of y).0 → i < j → cell_cmp x y ≡ Less
  rows_rise x y i j within is place lt =
      cells_by_row x y (places_rise mark_half (row_of x).0 (row_of y).0 i j tiles (marks_kept tiles tiled)
      (place_of_key mark_half x tiles i (marks_kept tiles tiled) within is) place lt)

  pub none_passed : (after : Option Cell) (start : ℕ) → start < length tiles → IsStart tiles start after → NonePassed tiles after start
  none_passed o start within place i lt x comes = grind (arith, not_marked, not_both_ways, rows_rise)

  unmarked : (x : Cell) → ((i : ℕ) → i < length tiles → marked tiles i x ≡ false) → map.contains_key (joined tiles).marks x ≡ false
  unmarked x none =
      ap (λ m. map.contains_key m x) (marks_joined tiles)
      ∙ ap is_some (map.get-from_entries cell_cmp_total _ x ∙ find-nowhere mark_half x tiles (λ i lt. no_item _ (none i lt)))

  -- where no tile has a mark after the cell, the table has none
  pub no_next : (after : Option Cell) → NonePassed tiles after (length tiles) → IsNextMark (joined tiles).marks after None
  no_next after passed cell comes = unmarked cell (λ i lt. passed i lt cell comes)

  -- the first tile that returns a mark returns the table's, since rows rise from tile to tile
  pub next_there : (after : Option Cell) (j : ℕ) (next : Cell) → j < length tiles → NonePassed tiles after j → IsNextMark (tile_at tiles j).marks after (Some next) → IsNextMark (joined tiles).marks after (Some next)
  next_there after j next lt passed there =
      let place : IsPlace tiles j (row_of next).0 = place_of_key mark_half next tiles j (marks_kept tiles tiled) lt there.0 in (
        ap is_some (mark-joined next tiles j tiled place) ∙ there.0,
        there.1,
        λ cell comes below.
            unmarked cell (λ i within.
            elim (cases_order i j) [
              | inl here ↦ ap (λ n. marked tiles n cell) here ∙ there.2 cell comes below
              | inr rest ↦ elim rest [
                | inl before ↦ passed i before cell comes
                | inr later ↦ not_marked _ (λ is. not_both_ways next cell
                    (rows_rise next cell j i lt there.0 (place_of_key mark_half cell tiles i (marks_kept tiles tiled) within is) later) below)
              ]
            ]),
      )

-- a tablet that returns no mark after the cell is passed too
pub one_more_passed : (tiles : List Tile) (after : Option Cell) (i : ℕ) → NonePassed tiles after i → ((cell : Cell) → ComesAfter after cell → marked tiles i cell ≡ false) → NonePassed tiles after (i + 1)
one_more_passed tiles after i passed here = below_more (λ n. (cell : Cell) → ComesAfter after cell → marked tiles n cell ≡ false) i passed here
