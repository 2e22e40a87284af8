-- The first changes of a log, where at most so many are made again.
use Rattle.std.specs.Prelude.{ℕ, ◌-◌, Bool, false, nat_le, List, take, Option, Some, None}
use Rattle.pb_keep.specs.Words.{Writes}

-- at most so many of these changes, from the first one on, or all of them where no number is given
abbrev pub first_changes : Option ℕ → List Writes → List Writes
first_changes None changes = changes
first_changes (Some most) changes = take most changes

-- how many may follow where so many are made
abbrev pub room_after : Option ℕ → ℕ → Option ℕ
room_after None made = None
room_after (Some most) made = Some (most - made)

-- whether none may follow
abbrev pub is_full : Option ℕ → ℕ → Bool
is_full None made = false
is_full (Some most) made = nat_le most made
