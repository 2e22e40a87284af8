-- Tables of helpers. The set itself is defined with the machine, which has to know what is declared.
use Rattle.std.specs.Prelude.{true}
use Rattle.pb_isa.specs.Helpers.{HelperSet, Helper, Read, Write, Delete, Start}

-- each of the four
abbrev pub all_helpers : HelperSet
all_helpers = record { read = true; write = true; delete = true; start = true }

-- the helpers of the set and this one
abbrev pub with_helper : HelperSet → Helper → HelperSet
with_helper h Read = record h { read = true }
with_helper h Write = record h { write = true }
with_helper h Delete = record h { delete = true }
with_helper h Start = record h { start = true }
