use Rattle.std.proofs.Common.{◌<◌, ◌+◌, ℕ, codes, slice_index}
use Rattle.percobpf_keep.specs.Left.{MayHave}
use Rattle.percobpf_keep.proofs.new_file.is_beginning.Given as goal

-- the words were looked at as far as this
abbrev pub invariant-loop-at : goal.invariant-loop-at
invariant-loop-at l = (n : ℕ) → n < l.at → MayHave l.first (13 + n) (slice_index (codes "percobpf log ") n)
