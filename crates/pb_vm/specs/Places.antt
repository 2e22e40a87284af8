-- Where a cell stands among those written, in the order of their first writes.
use Rattle.std.specs.Prelude.{ℕ, suc, cond, [], ◌∷◌}
use Rattle.std.specs.Ordering.{eq_by_cmp}
use Rattle.pb_vm.specs.Words.{Cell, cell_cmp, Writes}

-- the place of the first write to x, or how many writes there are
abbrev pub place_in : Cell → Writes → ℕ
place_in x [] = 0
place_in x (w ∷ ws) = cond (eq_by_cmp cell_cmp x w.0) 0 (suc (place_in x ws))
