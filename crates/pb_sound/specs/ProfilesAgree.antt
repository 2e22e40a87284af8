-- Programs of both profiles that have the same instructions. Rules and machine take the list of instructions, so that
-- these laws break where one of them looks at the profile.
use Rattle.std.specs.Prelude.{ℕ, ◌↔◌, List}
use Rattle.pb_sound.specs.Words.{Writes, Insn, Profile, HelperSet, ProgramOf, IsProgram, JudgedOf, Talk, Means, RuleCode, Accepts, Refuses}

-- a program of this profile
abbrev pub program_in : Profile → List Insn → ProgramOf
program_in profile is = record { profile = profile; insns = is }

-- judged for these helpers and a record of this size
abbrev pub judged_in : Profile → List Insn → HelperSet → ℕ → JudgedOf
judged_in profile is helpers size = record { program = program_in profile is; helpers = helpers; record_size = size }

-- what is a program of profile 1 is one of profile 2
abbrev pub ProgramsOfOneAreOfTwo : Type 0
ProgramsOfOneAreOfTwo = (is : List Insn) → IsProgram (program_in Profile.One is) → IsProgram (program_in Profile.Two is)

-- both are accepted or none is
abbrev pub SameAreAccepted : Type 0
SameAreAccepted = (is : List Insn) (helpers : HelperSet) (size : ℕ) → Accepts (judged_in Profile.One is helpers size) ↔ Accepts (judged_in Profile.Two is helpers size)

-- both are refused at the same slot with the same code
abbrev pub SameAreRefused : Type 0
SameAreRefused =
    (is : List Insn) (helpers : HelperSet) (size slot : ℕ) (code : RuleCode) →
    Refuses (judged_in Profile.One is helpers size) slot code ↔ Refuses (judged_in Profile.Two is helpers size) slot code

-- both end with the same result and writes, after the same asks and replies
abbrev pub SameIsMeant : Type 0
SameIsMeant =
    (is : List Insn) (helpers : HelperSet) (size : ℕ) (bytes : List ℕ) (start : ℕ) (talk : Talk) (r : ℕ) (writes : Writes) →
    Means (judged_in Profile.One is helpers size) bytes start talk r writes ↔ Means (judged_in Profile.Two is helpers size) bytes start talk r writes
