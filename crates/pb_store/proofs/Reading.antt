-- What the tablet of a row answers is what all answer.
use Rattle.std.proofs.Common.{arith, ◌≡◌, ℕ, ◌<◌, List, Option, None, Some, sym, ap, ◌∙◌, subst, length, get_or}
use Rattle.std.specs.FinMap as map
use Rattle.pb_store.specs.Words.{Row, Ts, Cell, row_of}
use Rattle.pb_store.specs.declared.slot.Slot.{Slot}
use Rattle.pb_store.specs.declared.slot.Sort.{Sort}
use Rattle.pb_store.specs.declared.slot.Item.{Item}
use Rattle.pb_store.specs.Contents.{Contents, IsNewest, slot_at}
use Rattle.pb_store.specs.Tiles.{tiles_of, AreTiled, IsPlace, joined}
use Rattle.pb_store.proofs.Routing.{tile_at, tile_at-tiles_of}
use Rattle.pb_store.proofs.Joined.{get-joined}

-- p stands at i, the place of the row r in the tablets, which were found as ps
module _ {T : Type 0} (c : T → Contents) (parts ps : List (Row × T)) (i : ℕ) (r : Row) (p : Row × T) (same : ps ≡ parts) (lt : i < length ps)
    (place : IsPlace (tiles_of c ps) i r.0) (at : p ≡ get_or parts i p) (tiled : AreTiled (tiles_of c parts)) where
  pub place_there : IsPlace (tiles_of c parts) i r.0
  place_there = subst (λ (xs : List (Row × T)). IsPlace (tiles_of c xs) i r.0) same place

  pub tile_there : tile_at (tiles_of c parts) i ≡ c p.1
  tile_there = tile_at-tiles_of c parts i p (subst (λ (xs : List (Row × T)). i < length xs) same lt) ∙ ap (λ x. c x.1) (sym at)

  pub get_there : (q : Slot) → r ≡ row_of q.cell → map.get (c p.1).entries q ≡ map.get (joined (tiles_of c parts)).entries q
  get_there q row = grind (arith, tile_there, get-joined, place_there)

  pub newest_there : (cell : Cell) (sort : Sort) (high : Ts) (found : Option (Ts × Item)) → r ≡ row_of cell
      → IsNewest (c p.1).entries cell sort high found → IsNewest (joined (tiles_of c parts)).entries cell sort high found
  newest_there cell sort high None row n = λ t le. sym (get_there (slot_at cell sort t) row) ∙ n t le
  newest_there cell sort high (Some found) row n =
      (n.0, sym (get_there (slot_at cell sort found.0.0) row) ∙ n.1, n.2, λ t gt le. sym (get_there (slot_at cell sort t) row) ∙ n.3 t gt le)
