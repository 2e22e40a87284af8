-- The cells of a run's declaration after its acknowledgment, for the body that reads them off the run's writes.
use Rattle.std.proofs.Common.{◌≡◌, ℕ, zero, suc, ◌-◌, ◌<◌, ◌≢◌, List, [], ◌∷◌, length, map, Some, refl, slice_index_or, arith, slice_get}
use Rattle.pb_txn.specs.Words.{Cell, Content, Writes}

-- the cells of writes, in order
abbrev names : Writes → List Cell
names ws = map (λ (w : Cell × Content). w.0) ws

in_writes : (ws : Writes) (k : ℕ) (d : Cell × Content) → k < length (names ws) → slice_get (names ws) k ≡ Some (slice_index_or ws k d).0
in_writes [] k d lt = absurd (omega (arith, lt))
in_writes (w ∷ ws) zero d lt = refl
in_writes (w ∷ ws) (suc k) d lt = in_writes ws k d (omega (arith, lt))

-- after the primary the cell at a place is that of the write one place before
pub after_first : (x : Cell) (ws : Writes) (k : ℕ) (d : Cell × Content) → k ≢ 0 → k < suc (length (names ws)) → slice_get (x ∷ names ws) k ≡ Some (slice_index_or ws (k - 1) d).0
after_first x ws k d n1 lt = grind (arith, in_writes)
