use Rattle.std.proofs.Common.{arith, ◌≡◌, ◌∙◌, Some, sym}
use Rattle.pb_texts.proofs.CellWords.{goes_on, ends_short}
use Rattle.pb_texts.proofs.words.trial.cells_named.Goals as goal

pub loop-left-preserved : goal.loop-left-preserved
loop-left-preserved c = rw c.in_ok-push-in-Some.ensures.items (goes_on c.loop-left.left.now _ c.loop-left.cells.items c.in-Some.cell _ (omega (arith, c.in-len3-up.len_at_least)) (sym c.trial_cell.ensures ∙ c.in-Some.is) c.loop-left.invariant)

pub returns-else-is_empty : goal.returns-else-is_empty
returns-else-is_empty c = ends_short c.loop-left.left.now c.loop-left.cells.items _ c.in_default.len_below (λ e. grind arith) c.loop-left.invariant
