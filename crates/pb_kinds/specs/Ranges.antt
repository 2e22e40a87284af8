-- Which bytes a pointer reaches: those of the stack by their negative distance from its end, and those of the record by
-- their distance from its first byte.
use Rattle.std.specs.Prelude.{ℕ, zero, suc, ◌+◌, ℤ, pos, neg_ℤ, ◌+ℤ◌, int_le, nat_abs, Bool, true, false, ◌&&◌, List, [], ◌∷◌, ◌++◌, drop, replicate}
use Rattle.pb_isa.specs.declared.limits.TheConstants.{STACK_BYTES}
use Rattle.pb_kinds.specs.declared.frame.Frame.{Frame}
use Rattle.pb_kinds.specs.Frames.{has_byte}

-- n bytes from z on lie all from low up to high
abbrev pub is_inside : ℤ → ℤ → ℤ → ℕ → Bool
is_inside low high z n = int_le low z && int_le (z +ℤ pos n) high

-- n bytes from z on lie all in the stack, from its lowest byte up to its end
abbrev pub in_stack : ℤ → ℕ → Bool
in_stack = is_inside (neg_ℤ (pos STACK_BYTES)) (pos 0)

-- n bytes from z on lie all in a record of this size, which the version that a program is judged for says
abbrev pub in_record : ℕ → ℤ → ℕ → Bool
in_record size = is_inside (pos 0) (pos size)

-- the place of a stack byte, counted from the lowest
abbrev pub from_low : ℤ → ℕ
from_low z = nat_abs (z +ℤ pos STACK_BYTES)

-- n stack bytes from the one at place i on are written, each by its place
abbrev pub has_bytes : Frame → ℕ → ℕ → Bool
has_bytes f i zero = true
has_bytes f i (suc n) = has_byte f i && has_bytes f (i + 1) n

-- n stack bytes from z on are written
abbrev pub are_written : Frame → ℤ → ℕ → Bool
are_written f z n = has_bytes f (from_low z) n

-- n flags set from place i on; what the list doesn't reach is false
abbrev pub set_flags : List Bool → ℕ → ℕ → List Bool
set_flags w zero n = replicate n true ++ drop n w
set_flags [] (suc i) n = false ∷ set_flags [] i n
set_flags (b ∷ w) (suc i) n = b ∷ set_flags w i n

-- the frame with n stack bytes from z on written
abbrev pub with_written : Frame → ℤ → ℕ → Frame
with_written f z n = record { kinds = f.kinds; written = set_flags f.written (from_low z) n }
