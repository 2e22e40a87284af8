use Rattle.std.proofs.Common.{◌≡◌, ◌<◌, ℕ, Some, slice_get}
use Rattle.pb_keeper.proofs.chosen.place_of.Given as goal

-- no earlier place has it
abbrev pub invariant-loop-place : goal.invariant-loop-place
invariant-loop-place l = (p : ℕ) → p < l.place → slice_get l.observers p ≡ Some l.one → ⊥
