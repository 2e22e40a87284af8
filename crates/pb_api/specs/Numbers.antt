-- The arguments that are numbers in C, and what they stand for. Of profiles `profile_of` is a manifest's.
use Rattle.std.specs.Prelude.{ℕ, ◌==◌, ◌%◌, ◌/◌, nat_lt, if◌then◌else◌, Option, Some, None}
use Rattle.pb_isa.specs.Helpers.{HelperSet}
use Rattle.pb_helpers.specs.declared.change.Version.{Version}

-- the version of the change record of this number, 1 or 2
abbrev pub version_by : ℕ → Option Version
version_by n = if n == 1 then Some Version.First else if n == 2 then Some Version.Second else None

-- of the helpers 1 to 4 those whose bits are set, the lowest for helper 1
abbrev pub helpers_by : ℕ → HelperSet
helpers_by bits = record { read = (bits % 2) == 1; write = (bits / 2 % 2) == 1; delete = (bits / 4 % 2) == 1; start = (bits / 8 % 2) == 1 }

-- there are four helpers, so that a greater number is no set of them
abbrev pub helpers_in_bits : ℕ → Option HelperSet
helpers_in_bits bits = if nat_lt bits 16 then Some (helpers_by bits) else None
