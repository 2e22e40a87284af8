-- How far the pointers of frames are from where they began: before slot n at most n steps of 2 ^ 31, which is as far as
-- an immediate moves one. So with at most 4,096 slots no sum of a distance and an offset leaves the 64 bits of the
-- code.
use Rattle.std.specs.Prelude.{ℕ, ◌≤◌, nat_abs, Option, Some, None}
use Rattle.pb_verify.specs.Words.{Kind, Frame, kind_of}

-- a pointer at most b bytes from where its region begins or ends; of all else nothing is asked
abbrev pub IsNear : ℕ → Kind → Type 0
IsNear b Kind.Unset = Unit {0}
IsNear b Kind.Number = Unit {0}
IsNear b (Kind.Stack k) = nat_abs k ≤ b
IsNear b (Kind.Record k) = nat_abs k ≤ b

-- each register is so near
pub record IsWithin (b : ℕ) (f : Frame) : Type 0 where
  pub each : (r : ℕ) → IsNear b (kind_of f r)

-- where there is a frame, each of its registers is so near
abbrev pub IsWithinIf : ℕ → Option Frame → Type 0
IsWithinIf b None = Unit {0}
IsWithinIf b (Some f) = IsWithin b f
