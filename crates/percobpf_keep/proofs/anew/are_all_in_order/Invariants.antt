use Rattle.std.proofs.Common.{◌≡◌, ◌<◌, ℕ, Some, slice_get}
use Rattle.percobpf_keep.proofs.anew.are_all_in_order.Given as goal

-- the earlier ones are in their order, and there are as many as of the observers
abbrev pub invariant-loop-number : goal.invariant-loop-number
invariant-loop-number l = (n p : ℕ) → n < l.number → slice_get l.places n ≡ Some p → p ≡ n
