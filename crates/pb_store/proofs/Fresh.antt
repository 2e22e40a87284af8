-- Tablets that hold nothing, side by side.
use Rattle.std.proofs.Common.{◌≡◌, ℕ, ◌<◌, Bool, true, false, cond, ◌&&◌, ◌==◌, List, [], ◌∷◌, ◌++◌, Some, refl, sym, ap, ◌∙◌, subst, arith, is_some, length, Ordering}
use Rattle.std.specs.FinMap as map
use Rattle.pb_store.specs.Words.{cell_cmp, Reason}
use Rattle.pb_store.specs.Slot.{slot_cmp}
use Rattle.pb_store.specs.Contents.{Contents, nothing, is_nothing}
use Rattle.pb_store.specs.Tiles.{Tile, IsTile, AreTiled, IsTiling, IsBelow, all_entries, all_marks, joined, rise, rise_from_zero, all_nothing, table_reason}
use Rattle.pb_store.proofs.Joined.{joined-entries, joined-marks}
use Rattle.pb_base.proofs.Logic.{empty_by_length as no_length, right_true}

left_true : (a b : Bool) → (a && b) ≡ true → a ≡ true
left_true a b e = grind arith

same_true : (a b : ℕ) → (a == b) ≡ true → a ≡ b
same_true a b e = grind arith

-- what passes the test for nothing is the one value without entry and mark
pub nothing_from_test : (c : Contents) → is_nothing c ≡ true → c ≡ nothing
nothing_from_test c e =
    let m = map.empty_of_len c.entries (same_true _ _ (left_true _ _ e)) in
    let n = map.empty_of_len c.marks (same_true _ _ (right_true _ _ e)) in
    λ i. record { entries = m i; marks = n i }

entries-empty : {K X : Type 0} (R : K → K → Ordering) → map.entries (map.empty {X = X} {R = R}) ≡ []
entries-empty {K} {X} R = no_length _ (sym (map.len-entries (map.empty {X = X} {R = R})) ∙ map.len-empty R X)

-- an empty map has no key
no_key : {K X : Type 0} (R : K → K → Ordering) (m : map.FinMap R X) (q : K) → m ≡ map.empty → map.contains_key m q ≡ true → ⊥
no_key R m q e is = subst (λ x. cond x (Unit {0}) ⊥) (sym is ∙ ap (λ n. map.contains_key n q) e ∙ ap is_some (map.get-empty R q)) tt

pub all_entries-nothing : (tiles : List Tile) → all_nothing tiles ≡ true → all_entries tiles ≡ []
all_entries-nothing [] e = refl
all_entries-nothing (tile ∷ tiles) e =
    ap (λ (c : Contents). map.entries c.entries ++ all_entries tiles) (nothing_from_test tile.1 (left_true _ _ e))
    ∙ ap (λ es. es ++ all_entries tiles) (entries-empty slot_cmp)
    ∙ all_entries-nothing tiles (right_true _ _ e)

pub all_marks-nothing : (tiles : List Tile) → all_nothing tiles ≡ true → all_marks tiles ≡ []
all_marks-nothing [] e = refl
all_marks-nothing (tile ∷ tiles) e =
    ap (λ (c : Contents). map.entries c.marks ++ all_marks tiles) (nothing_from_test tile.1 (left_true _ _ e))
    ∙ ap (λ es. es ++ all_marks tiles) (entries-empty cell_cmp)
    ∙ all_marks-nothing tiles (right_true _ _ e)

pub joined-nothing : (tiles : List Tile) → all_nothing tiles ≡ true → joined tiles ≡ nothing
joined-nothing tiles e = grind (arith, joined-entries, all_entries-nothing, joined-marks, all_marks-nothing)

-- rows that rise from one above low are all above low
rises_below : (low : ℕ) (tiles : List Tile) → rise low tiles ≡ true → IsBelow low tiles
rises_below low tiles r = grind arith

-- an empty tablet keeps to whatever rows it has
tile_of_nothing : (tile : Tile) (tiles : List Tile) → rise tile.0 tiles ≡ true → is_nothing tile.1 ≡ true → IsTile tile tiles
tile_of_nothing tile tiles r e = grind (arith, nothing_from_test, rises_below, no_key, tile.1.entries, tile.1.marks)

-- and so do many, where their first rows rise
tiled_nothing : (low : ℕ) (tiles : List Tile) → rise low tiles ≡ true → all_nothing tiles ≡ true → AreTiled tiles
tiled_nothing low [] r e = tt
tiled_nothing low (tile ∷ tiles) r e =
    (tile_of_nothing tile tiles (right_true _ _ r) (left_true _ _ e), tiled_nothing tile.0 tiles (right_true _ _ r) (right_true _ _ e))

-- empty tablets whose first rows rise from 0 make a table
pub tiling_of_nothing : (tiles : List Tile) → rise_from_zero tiles ≡ true → all_nothing tiles ≡ true → IsTiling tiles
tiling_of_nothing tiles r e = grind (arith, same_true, left_true, tile_of_nothing, right_true, tiled_nothing)

-- rows that don't rise from 0 are the reason that is returned, whether or not the tablets are empty
pub refused_unrisen : (tiles : List Tile) → 0 < length tiles → rise_from_zero tiles ≡ false → table_reason tiles ≡ Some Reason.RowsDontRise
refused_unrisen tiles lt e = grind arith
