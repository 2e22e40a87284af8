-- The verdict on a program that C gets.
use Rattle.std.specs.Prelude.{◌≡◌, ◌⊎◌, ℕ, List, Option, Some}
use Rattle.pb_isa.specs.declared.profile.Profile.{Profile}
use Rattle.pb_isa.specs.Helpers.{HelperSet}
use Rattle.pb_isa.specs.Programs.{JudgedOf}
use Rattle.pb_isa.specs.Slots.{slots}
use Rattle.pb_helpers.specs.declared.change.Version.{Version}
use Rattle.pb_registry.specs.Accepting.{IsAcceptedCode, IsRefusedCode}
use Rattle.pb_api.specs.declared.kind.AnswerKind.{AnswerKind}
use Rattle.pb_api.specs.declared.judging.ProgramVerdict.{ProgramVerdict}
use Rattle.pb_api.specs.Kinds.{kind_number, no_memory}

-- a verdict of this kind
abbrev pub verdict : AnswerKind → ℕ → ℕ → ProgramVerdict
verdict kind slot code = record { kind = kind_number kind; slot = slot; code = code }

-- the rules accept the program that the bytes encode, which has so many slots
abbrev pub AcceptsProgram : Profile → Version → HelperSet → List ℕ → ProgramVerdict → Type 0
AcceptsProgram profile version helpers bytes v = (j : JudgedOf) × IsAcceptedCode profile version bytes helpers j × (v ≡ verdict AnswerKind.Done (slots j.program.insns) 0)

-- the first slot at fault, with the lowest code there
abbrev pub RefusesProgram : Profile → Version → HelperSet → List ℕ → ProgramVerdict → Type 0
RefusesProgram profile version helpers bytes v = (slot code : ℕ) × IsRefusedCode profile version bytes helpers slot code × (v ≡ verdict AnswerKind.Refused slot code)

-- that of want of memory says nothing of the program
abbrev pub IsVerdictOf : Profile → Version → HelperSet → List ℕ → ProgramVerdict → Type 0
IsVerdictOf profile version helpers bytes v = AcceptsProgram profile version helpers bytes v ⊎ (RefusesProgram profile version helpers bytes v ⊎ (v ≡ verdict no_memory 0 1))

-- the verdict where an argument isn't one of those that it may be
abbrev pub no_verdict : ProgramVerdict
no_verdict = verdict AnswerKind.BadArgument 0 0

-- each of the numbers has to stand for something
abbrev pub IsVerdictBy : Option Profile → Option Version → Option HelperSet → List ℕ → ProgramVerdict → Type 0
IsVerdictBy (Some profile) (Some version) (Some helpers) bytes v = IsVerdictOf profile version helpers bytes v
IsVerdictBy profile version helpers bytes v = v ≡ no_verdict
