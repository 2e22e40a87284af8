-- The cells that a plan reads off a declaration are those that the table keeps of it.
use Rattle.std.proofs.Common.{◌≡◌, ℕ, ◌<◌, ◌^◌, Bool, true, false, Option, List, ◌∷◌, map, refl, sym, ap, ◌∙◌}
use Rattle.std.proofs.lemmas.Nat.{from_le_bytes-to_le_bytes_8}
use Rattle.pb_txn.specs.Words.{Cell, Revision, row_of, column_of, recorded_row, recorded_column, record_by, Work, Declared, cells_of, ObserverOf, observed_cell, IsForWork}
use Rattle.pb_txn.specs.Places.{declared_cells}
use Rattle.pb_txn.specs.Allowed.{IsWorkInRange}

-- the row in a record of either version is that of its cell, since a row fits into its 8 bytes
row_recorded : (second : Bool) (x : Cell) (v : Revision) (a : ℕ) (old : Option (List ℕ)) → (row_of x).0 < 2 ^ 64 → recorded_row (record_by second x v a old) ≡ (row_of x).0
row_recorded true x v a old lt = from_le_bytes-to_le_bytes_8 (row_of x).0 lt
row_recorded false x v a old lt = from_le_bytes-to_le_bytes_8 (row_of x).0 lt

-- and so is the column
column_recorded : (second : Bool) (x : Cell) (v : Revision) (a : ℕ) (old : Option (List ℕ)) → column_of x < 2 ^ 64 → recorded_column (record_by second x v a old) ≡ column_of x
column_recorded true x v a old lt = from_le_bytes-to_le_bytes_8 (column_of x) lt
column_recorded false x v a old lt = from_le_bytes-to_le_bytes_8 (column_of x) lt

-- the cells that the table keeps of a declaration for this work are those that a plan reads off it
pub cells_are : (observers : List ObserverOf) (work : Work) (s : ℕ) (what : Declared) → IsForWork observers work what → IsWorkInRange observers work
    → map (λ w. w.0) (cells_of observers work s what) ≡ declared_cells what
cells_are observers Work.Script s (Declared.Script batch) f r = refl
cells_are observers Work.Script s (Declared.Run o m) f r = absurd f
cells_are observers (Work.Run p row) s (Declared.Script batch) f r = absurd f
cells_are observers (Work.Run p row) s (Declared.Run o m) f r =
    let row-is = ap recorded_row f.5 ∙ row_recorded f.1 (observed_cell observers p row) f.2 f.3 f.4 r.0 in
    let column-is = ap recorded_column f.5 ∙ column_recorded f.1 (observed_cell observers p row) f.2 f.3 f.4 r.1 in
    λ i. Cell.Ack (sym f.0 i) (record { 0 = sym row-is i }) (sym column-is i) ∷ map (λ w. w.0) m.writes
