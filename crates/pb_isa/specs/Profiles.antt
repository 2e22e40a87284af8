-- The profiles: the instructions and the slots that a program may have. They are the project's own, as RFC 9669 lets a
-- platform choose (section 2.4). Nothing else depends on the profile: rules and machine take instructions.
use Rattle.std.specs.Prelude.{ℕ, Bool, true, false, IsTrue}
use Rattle.pb_isa.specs.declared.limits.TheConstants.{MAX_SLOTS, PROFILE_1_SLOTS}
use Rattle.pb_isa.specs.declared.profile.Profile.{Profile}
use Rattle.pb_isa.specs.declared.insn.Insn.{Insn}
use Rattle.pb_isa.specs.declared.insn.Extension.{Extension}
use Rattle.pb_isa.specs.declared.insn.Size.{Size}
use Rattle.pb_isa.specs.declared.insn.Width.{Width}

-- the most slots that a program takes
abbrev pub max_slots : Profile → ℕ
max_slots Profile.One = PROFILE_1_SLOTS
max_slots Profile.Two = MAX_SLOTS

-- fewer bits than the width has
abbrev pub is_narrower : Size → Width → Bool
is_narrower Size.Dw w = false
is_narrower Size.W Width.Bits32 = false
is_narrower z w = true

-- profile 1 has no sign-extending move or load; those of profile 2 extend what is narrower than their result
abbrev pub is_of : Profile → Insn → Bool
is_of Profile.One (Insn.MovSx w z dst src) = false
is_of Profile.Two (Insn.MovSx w z dst src) = is_narrower z w
is_of Profile.One (Insn.Load z Extension.Sign dst src offset) = false
is_of Profile.Two (Insn.Load z Extension.Sign dst src offset) = is_narrower z Width.Bits64
is_of p i = true

-- a program of the profile may have this instruction
abbrev pub IsOf : Profile → Insn → Type 0
IsOf p i = IsTrue (is_of p i)
