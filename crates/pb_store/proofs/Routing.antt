-- Which tablet has a row, and what stands at a place.
use Rattle.std.proofs.Common.{◌≡◌, ℕ, ◌+◌, ◌<◌, ◌≤◌, List, [], ◌∷◌, refl, sym, ap, ◌∙◌, arith, zero, suc, length, get_or, set, below_more}
use Rattle.pb_store.specs.Words.{Row}
use Rattle.pb_store.specs.Contents.{Contents, nothing}
use Rattle.pb_store.specs.TableOf.{firsts_of}
use Rattle.pb_store.specs.Tiles.{Tile, IsBelow, IsPlace, IsTiling, tiles_of}

-- what tile i contains
abbrev pub tile_at : List Tile → ℕ → Contents
tile_at [] i = nothing
tile_at (tile ∷ tiles) zero = tile.1
tile_at (tile ∷ tiles) (suc i) = tile_at tiles i

-- the first row of tile i
abbrev pub first_at : List Tile → ℕ → ℕ
first_at [] i = 0
first_at (tile ∷ tiles) zero = tile.0
first_at (tile ∷ tiles) (suc i) = first_at tiles i

-- the tiles with other contents in tile i
abbrev pub replace : List Tile → ℕ → Contents → List Tile
replace [] i c = []
replace (tile ∷ tiles) zero c = (tile.0, c) ∷ tiles
replace (tile ∷ tiles) (suc i) c = tile ∷ replace tiles i c

pub length-tiles_of : {T : Type 0} (c : T → Contents) (parts : List (Row × T)) → length (tiles_of c parts) ≡ length parts
length-tiles_of c [] = refl
length-tiles_of c (part ∷ parts) = ap suc (length-tiles_of c parts)

pub first_at-tiles_of : {T : Type 0} (c : T → Contents) (parts : List (Row × T)) (i : ℕ) (d : Row × T) → i < length parts → first_at (tiles_of c parts) i ≡ (get_or parts i d).0.0
first_at-tiles_of c [] i d lt = absurd (omega arith)
first_at-tiles_of c (part ∷ parts) zero d lt = refl
first_at-tiles_of c (part ∷ parts) (suc i) d lt = first_at-tiles_of c parts i d (omega arith)

pub tile_at-tiles_of : {T : Type 0} (c : T → Contents) (parts : List (Row × T)) (i : ℕ) (d : Row × T) → i < length parts → tile_at (tiles_of c parts) i ≡ c (get_or parts i d).1
tile_at-tiles_of c [] i d lt = absurd (omega arith)
tile_at-tiles_of c (part ∷ parts) zero d lt = refl
tile_at-tiles_of c (part ∷ parts) (suc i) d lt = tile_at-tiles_of c parts i d (omega arith)

tiles_of-set : {T : Type 0} (c : T → Contents) (parts : List (Row × T)) (i : ℕ) (p : Row × T) (t : T) → i < length parts → p ≡ get_or parts i p
    → tiles_of c (set parts i (p.0, t)) ≡ replace (tiles_of c parts) i (c t)
tiles_of-set c [] i p t lt e = absurd (omega arith)
tiles_of-set c (part ∷ parts) zero p t lt e = ap (λ (n : ℕ). (n, c t) ∷ tiles_of c parts) (ap (λ x. x.0.0) e)
tiles_of-set c (part ∷ parts) (suc i) p t lt e = ap (λ ts. (part.0.0, c part.1) ∷ ts) (tiles_of-set c parts i p t (omega arith) e)

-- a tile that gets what it has changes nothing
pub replace_same : (tiles : List Tile) (i : ℕ) → replace tiles i (tile_at tiles i) ≡ tiles
replace_same [] i = refl
replace_same (tile ∷ tiles) zero = refl
replace_same (tile ∷ tiles) (suc i) = ap (λ ts. tile ∷ ts) (replace_same tiles i)

-- a tablet that is changed in place
module _ {T : Type 0} (c : T → Contents) (parts : List (Row × T)) (i : ℕ) (p : Row × T) (t : T) (lt : i < length parts) (e : p ≡ get_or parts i p) where
  here : tile_at (tiles_of c parts) i ≡ c p.1
  here = tile_at-tiles_of c parts i p lt ∙ ap (λ x. c x.1) (sym e)

  pub tiles_kept : c t ≡ c p.1 → tiles_of c (set parts i (p.0, t)) ≡ tiles_of c parts
  tiles_kept same = tiles_of-set c parts i p t lt e ∙ ap (replace (tiles_of c parts) i) (same ∙ sym here) ∙ replace_same (tiles_of c parts) i

  pub tiles_changed : (f : Contents → Contents) → c t ≡ f (c p.1) → tiles_of c (set parts i (p.0, t)) ≡ replace (tiles_of c parts) i (f (tile_at (tiles_of c parts) i))
  tiles_changed f done = tiles_of-set c parts i p t lt e ∙ ap (replace (tiles_of c parts) i) (done ∙ ap f (sym here))

-- a table has at least one tablet
pub some_tile : (tiles : List Tile) → IsTiling tiles → 0 < length tiles
some_tile tiles t = grind arith

-- the first rows of tiles after one, up to another, are above the row
abbrev pub FirstsAbove : List Tile → ℕ → ℕ → ℕ → Type 0
FirstsAbove tiles row from upto = (k : ℕ) → from < k → k < upto → row < first_at tiles k

below_next : (bound : ℕ) (tile : Tile) (tiles : List Tile) → FirstsAbove (tile ∷ tiles) bound 0 (suc (length tiles)) → IsBelow bound tiles
below_next bound tile tiles above = grind arith

-- the tile that begins at or below the row, where all later ones begin above, has the row
pub place_from_firsts : (tiles : List Tile) (i row : ℕ) → i < length tiles → first_at tiles i ≤ row → FirstsAbove tiles row i (length tiles) → IsPlace tiles i row
place_from_firsts [] i row lt low above = absurd (omega arith)
place_from_firsts (tile ∷ tiles) zero row lt low above = (low, below_next row tile tiles above)
place_from_firsts (tile ∷ tiles) (suc i) row lt low above = place_from_firsts tiles i row (omega arith) low (λ k a b. above (suc k) (omega arith) (omega arith))

pub none_between : (tiles : List Tile) (row i : ℕ) → FirstsAbove tiles row i (i + 1)
none_between tiles row i k a b = absurd (omega arith)

-- the loop over first rows passes one more that is above the row
pub one_more_above : (tiles : List Tile) (row from i : ℕ) → FirstsAbove tiles row from i → row < first_at tiles i → FirstsAbove tiles row from (i + 1)
one_more_above tiles row from i above here k a b = below_more (λ n. from < n → row < first_at tiles n) i (λ n lt gt. above n gt lt) (λ _. here) k b a

-- a tablet changed in place keeps its first row
pub firsts_kept : {T : Type 0} (parts : List (Row × T)) (i : ℕ) (p : Row × T) (t : T) → i < length parts → p ≡ get_or parts i p → firsts_of (set parts i (p.0, t)) ≡ firsts_of parts
firsts_kept [] i p t lt e = absurd (omega arith)
firsts_kept (q ∷ parts) zero p t lt e = ap (λ r. r.0.0 ∷ firsts_of parts) e
firsts_kept (q ∷ parts) (suc i) p t lt e = ap (λ ns. q.0.0 ∷ ns) (firsts_kept parts i p t (omega arith) e)

pub length-firsts_of : {T : Type 0} (parts : List (Row × T)) → length (firsts_of parts) ≡ length parts
length-firsts_of [] = refl
length-firsts_of (part ∷ parts) = ap suc (length-firsts_of parts)
