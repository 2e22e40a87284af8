-- Whether a table has room for a change.
use Rattle.std.specs.Prelude.{ℕ, Bool, ◌&&◌, nat_le, nat_lt}
use Rattle.std.specs.FinMap as map
use Rattle.pb_keeper.specs.Words.{StateOf}
use Rattle.pb_keeper.specs.declared.room.TheConstants.{MAX_CLOCK}

-- it has fewer entries than its limit, and timestamps enough for each change of a record
abbrev pub has_room : ℕ → StateOf → Bool
has_room limit state = nat_lt (map.len state.entries) limit && nat_le state.clock MAX_CLOCK
