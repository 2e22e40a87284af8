-- Cells that compare alike are one.
use Rattle.std.proofs.Common.{◌≡◌, Bool, false, not, sym, ◌∙◌}
use Rattle.std.specs.Ordering.{eq_by_cmp}
use Rattle.pb_state.specs.Words.{Cell, cell_cmp}
use Rattle.pb_base.proofs.SameCells.{cell_is as same_cell}
use Rattle.pb_base.proofs.Logic.{true_if_not as true_if}

-- where they don't differ
pub same_if : (x y : Cell) (r : Bool) → r ≡ not (eq_by_cmp cell_cmp x y) → r ≡ false → x ≡ y
same_if x y r is e = same_cell x y (true_if _ (sym is ∙ e))
