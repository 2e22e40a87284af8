-- Cells have one total order: by row, by column, data before acknowledgments, and these by observer. The order's laws
-- stand here and not among the proofs, since maps over cells and the `Ord` of `Cell` cite them.
use Rattle.std.proofs.Common.{sym, arith, ◌≡◌, ℕ, ◌+◌, Bool, true, false, refl, Less, Equal, Greater, Ordering}
use Rattle.std.specs.FinMap.{IsAntisymmetric, nat_cmp-IsAntisymmetric}
use Rattle.std.specs.Ordering.{nat_cmp, on, then_cmp, ordering_then}
use Rattle.std.specs.Cmp.{IsTotalOrder, nat_cmp_total}
use Rattle.std.proofs.lemmas.Cmp.{on_total, then_total}
use Rattle.pb_base.specs.declared.names.Row.{Row}
use Rattle.pb_base.specs.declared.cell.Cell.{Cell}

-- the row, of an acknowledgment too: it stands in the row of the changes that it acknowledges
abbrev pub row_of : Cell → Row
row_of (Cell.Data row column) = row
row_of (Cell.Ack observer row column) = row

-- the column, of an acknowledgment that of the observed cell
abbrev pub column_of : Cell → ℕ
column_of (Cell.Data row column) = column
column_of (Cell.Ack observer row column) = column

-- a data cell, and no acknowledgment
abbrev pub is_data : Cell → Bool
is_data (Cell.Data row column) = true
is_data (Cell.Ack observer row column) = false

-- 0 for data, and one more than its observer for an acknowledgment
abbrev pub rank_of : Cell → ℕ
rank_of (Cell.Data row column) = 0
rank_of (Cell.Ack observer row column) = observer + 1

-- the order of cells that are of one row
abbrev pub in_row_cmp : Cell → Cell → Ordering
in_row_cmp = then_cmp (on column_of nat_cmp) (on rank_of nat_cmp)

-- the order of cells: by row first, so that a range of rows is a range of cells
abbrev pub cell_cmp : Cell → Cell → Ordering
cell_cmp = then_cmp (on (λ c. (row_of c).0) nat_cmp) in_row_cmp

-- any two cells compare, and comparing goes on from cell to cell
pub cell_cmp_total : IsTotalOrder cell_cmp
cell_cmp_total = then_total (on_total (λ c. (row_of c).0) nat_cmp_total) (then_total (on_total column_of nat_cmp_total) (on_total rank_of nat_cmp_total))

-- two orderings, one after the other, come to equal only where each is
pub both_equal : (a b : Ordering) → ordering_then a b ≡ Equal → (a ≡ Equal) × (b ≡ Equal)
both_equal Less b e = (e, cc)
both_equal Equal b e = (refl, e)
both_equal Greater b e = (e, cc)

-- two observers of one rank are one
suc_same : (a b : ℕ) → a + 1 ≡ b + 1 → a ≡ b
suc_same a b e = omega arith

-- no acknowledgment has the rank of data
no_rank : (a : ℕ) → 0 ≡ a + 1 → ⊥
no_rank a e = omega arith

-- row, column and rank are all that a cell says
same_cells : (x y : Cell) → (row_of x).0 ≡ (row_of y).0 → column_of x ≡ column_of y → rank_of x ≡ rank_of y → x ≡ y
same_cells (Cell.Data r c) (Cell.Data s d) p q e = λ i. Cell.Data (record { 0 = p i }) (q i)
same_cells (Cell.Data r c) (Cell.Ack o s d) p q e = absurd (no_rank o e)
same_cells (Cell.Ack o r c) (Cell.Data s d) p q e = absurd (no_rank o (sym e))
same_cells (Cell.Ack o r c) (Cell.Ack k s d) p q e = λ i. Cell.Ack (suc_same o k e i) (record { 0 = p i }) (q i)

-- cells that compare alike are one
pub cell_cmp-IsAntisymmetric : IsAntisymmetric cell_cmp
cell_cmp-IsAntisymmetric x y e =
    let rows = both_equal _ _ e in
    let columns = both_equal _ _ rows.1 in
    same_cells x y (nat_cmp-IsAntisymmetric _ _ rows.0) (nat_cmp-IsAntisymmetric _ _ columns.0) (nat_cmp-IsAntisymmetric _ _ columns.1)
