-- How far a transaction has come, as tests: each kind of step asks for one phase. `Phase`'s own calls cite them.
use Rattle.std.specs.Prelude.{Bool, true, false}
use Rattle.pb_steps.specs.declared.phase.Phase.{Phase}

-- it may read and declare
abbrev pub is_reading : Phase → Bool
is_reading Phase.Reading = true
is_reading _ = false

-- it may prewrite, and be stamped once all is prewritten
abbrev pub is_declared : Phase → Bool
is_declared Phase.Declared = true
is_declared _ = false

-- it may commit at its primary
abbrev pub is_stamped : Phase → Bool
is_stamped (Phase.Stamped c) = true
is_stamped _ = false

-- its other cells may be committed
abbrev pub is_committed : Phase → Bool
is_committed (Phase.Committed c) = true
is_committed _ = false
