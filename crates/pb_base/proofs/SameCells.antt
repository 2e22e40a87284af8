-- Cells tie exactly where they are equal.
use Rattle.std.proofs.Common.{◌≡◌, true, sym, ap, ◌∙◌}
use Rattle.std.specs.Ordering.{eq_by_cmp, is_eq}
use Rattle.std.specs.Cmp.{Equal-is, tied_itself}
use Rattle.pb_base.specs.declared.cell.Cell.{Cell}
use Rattle.pb_base.specs.Cell.{cell_cmp, cell_cmp-IsAntisymmetric, cell_cmp_total}

-- cells that tie are equal
pub cell_is : (x y : Cell) → eq_by_cmp cell_cmp x y ≡ true → x ≡ y
cell_is x y e = cell_cmp-IsAntisymmetric x y ((Equal-is (cell_cmp x y)).0 e)

-- equal cells tie
pub same_cells : (x y : Cell) → x ≡ y → eq_by_cmp cell_cmp x y ≡ true
same_cells x y e = ap (eq_by_cmp cell_cmp x) (sym e) ∙ ap is_eq (tied_itself cell_cmp_total x)
