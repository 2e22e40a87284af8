-- A write that replaces another: the code looks for the place, and the definition for the cell.
use Rattle.std.proofs.Common.{◌≡◌, ◌<◌, ◌≤◌, true, false, [], ◌∷◌, length, slice_set, refl, arith, is_some}
use Rattle.pb_vm.specs.Words.{Cell, Content, Writes, content_in, replace_write}
use Rattle.pb_vm.specs.Places.{place_in}

-- a cell that has a place was written before
pub is_there : (x : Cell) (ws : Writes) → place_in x ws < length ws → is_some (content_in ws x) ≡ true
is_there x [] lt = absurd (omega (arith, lt))
is_there x (w ∷ ws) lt = grind (arith, is_there x ws)

-- one that has none wasn't
pub is_absent : (x : Cell) (ws : Writes) → length ws ≤ place_in x ws → is_some (content_in ws x) ≡ false
is_absent x [] le = refl
is_absent x (w ∷ ws) le = grind (arith, is_absent x ws)

-- the write at that place is the one that is replaced
pub replaced_at_place : (x : Cell) (c : Content) (ws : Writes) → place_in x ws < length ws → slice_set ws (place_in x ws) (x, c) ≡ replace_write x c ws
replaced_at_place x c [] lt = absurd (omega (arith, lt))
replaced_at_place x c (w ∷ ws) lt = grind (arith, replaced_at_place x c ws)
